use Rattle.flcol_container.proofs.Sound.{container_is_read}
use Rattle.flcol_container.proofs.laws.container_is_read.Goals as goal

pub returns : goal.returns
returns c = container_is_read
