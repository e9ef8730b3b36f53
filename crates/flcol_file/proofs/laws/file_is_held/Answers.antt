use Rattle.flcol_file.proofs.HeldLaws.{held}
use Rattle.flcol_file.proofs.laws.file_is_held.Goals as goal

pub returns : goal.returns
returns c = λ bytes foot parts columns. held bytes foot foot.chunks parts columns
