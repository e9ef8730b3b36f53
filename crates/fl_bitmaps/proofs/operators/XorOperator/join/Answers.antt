use Rattle.fl_bitmaps.proofs.LogicLaws.{xor_joined}
use Rattle.fl_bitmaps.proofs.operators.XorOperator.join.Goals as goal

pub returns : goal.returns
returns c = xor_joined c.args.left c.args.right
