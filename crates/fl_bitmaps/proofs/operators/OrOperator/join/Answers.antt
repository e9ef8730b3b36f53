use Rattle.fl_bitmaps.proofs.LogicLaws.{or_joined}
use Rattle.fl_bitmaps.proofs.operators.OrOperator.join.Goals as goal

pub returns : goal.returns
returns c = or_joined c.args.left c.args.right
