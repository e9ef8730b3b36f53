use Rattle.std.proofs.Common.{arith}
use Rattle.fl_bitpacking.specs.RangeTests.{passes}
use Rattle.fl_array.proofs.RunTests.{block_read}
use Rattle.fl_array.proofs.reader.direct.DirectReader.test_names.Goals as goal

pub returns-clause-answers : goal.returns-clause-answers
returns-clause-answers g c = block_read g.I.Number.value (passes c.args.range) c.args.self.now.column c.read_items.new.items c.test_items.new.bits c.args.j (λ q z below e. c.read_items.ensures q z (omega arith) e) c.test_items.ensures.bits
