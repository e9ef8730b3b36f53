use Rattle.std.proofs.Common.{arith}
use Rattle.fl_bitpacking.proofs.ComparedLaws.{turned_bit}
use Rattle.fl_bitpacking.proofs.compute.compare.flipped.Goals as goal

pub returns : goal.returns
returns c j h = turned_bit c.args.word j (omega arith) h
