use Rattle.fl_bitpacking.specs.RangeTests.{passes}
use Rattle.fl_bitpacking.specs.References.{of_sum}
use Rattle.fl_array.proofs.ComparedLaws.{counted_sums}
use Rattle.fl_array.proofs.bitpacking.BitPackedArray.test_sums_counted.Goals as goal

pub returns-clause-work : goal.returns-clause-work
returns-clause-work c =
    let counts = rw c.new-work.ensures at c.in_ok-answers.ensures.blocks in
    let reads = rw c.new-work.ensures at c.test.ensures.words in
    record {
      blocks = counted_sums c.args.self.now (of_sum c.args.self.now.parts.ptype c.args.references.now.slots (passes c.args.range)) _ (rw c.packed_data.ensures at c.parts_are_consistent.ensures) counts;
      words = reads;
    }
