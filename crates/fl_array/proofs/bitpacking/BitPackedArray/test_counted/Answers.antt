use Rattle.std.proofs.Common.{refl}
use Rattle.fl_bitpacking.specs.RangeTests.{passes}
use Rattle.fl_array.proofs.ComparedLaws.{counted_alike}
use Rattle.fl_array.proofs.bitpacking.BitPackedArray.test_counted.Goals as goal

pub returns-clause-work : goal.returns-clause-work
returns-clause-work c =
    let counts = rw c.new-work.ensures at c.in_ok-answers.ensures.blocks in
    let reads = rw c.new-work.ensures at c.test.ensures.words in
    record {
      blocks = counted_alike c.args.self.now (passes c.args.range) (passes c.args.range) _ (rw c.packed_data.ensures at c.parts_are_consistent.ensures) (λ z. refl) counts;
      words = reads;
    }
