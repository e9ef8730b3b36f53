use Rattle.std.proofs.Common.{arith}
use Rattle.fl_bitpacking.specs.ValueAnswers.{named_answer}
use Rattle.fl_array.proofs.RunTests.{block_read}
use Rattle.fl_array.proofs.reader.direct.DirectReader.look_up_names.Goals as goal

pub returns-clause-answers : goal.returns-clause-answers
returns-clause-answers g c = block_read g.I.Number.value (named_answer c.args.answers.now) c.args.self.now.column c.read_items.new.items c.look_up.new.bits c.args.j (λ q z below e. c.read_items.ensures q z (omega arith) e) c.look_up.ensures.bits
