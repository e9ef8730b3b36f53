use Rattle.std.proofs.Common.{arith}
use Rattle.fl_bitmaps.proofs.BitLaws.{of_not}
use Rattle.fl_bitmaps.proofs.turning.turned.Goals as goal

pub returns : goal.returns
returns c j h = of_not c.args.byte j (omega arith) h
