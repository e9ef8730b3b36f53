use Rattle.std.proofs.Common.{arith}
use Rattle.flcol_engine.proofs.DigitLemmas.{all_digits, first_other}
use Rattle.flcol_engine.proofs.digits.leading_digits.Goals as goal

pub returns-then-others-eq0 : goal.returns-then-others-eq0
returns-then-others-eq0 c = all_digits 16 c.other_bytes-others.result c.args.bytes.now c.told-bytes c.other_bytes-others.ensures c.if-others-eq0.true

pub returns-else-others-eq0 : goal.returns-else-others-eq0
returns-else-others-eq0 c = first_other c.other_bytes-others.result c.args.bytes.now (omega (arith, c.told-bytes)) c.other_bytes-others.ensures c.if-others-eq0.false
