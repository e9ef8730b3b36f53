use Rattle.std.proofs.Common.{refl}
use Rattle.std.proofs.KnownBytes.{Keeps-refl}
use Rattle.flcol_engine.proofs.io.ReadEndSource.read.Goals as goal

pub loop-init : goal.loop-init
loop-init g c = record { kept = Keeps-refl _; mark = refl }
