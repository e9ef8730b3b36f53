use Rattle.std.proofs.Common.{arith}
use Rattle.fl_bitmaps.proofs.LogicLaws.{and_joined}
use Rattle.fl_bitmaps.proofs.operators.AndOperator.join.Goals as goal

pub returns : goal.returns
returns c = and_joined c.args.left c.args.right (omega arith) (omega arith)
