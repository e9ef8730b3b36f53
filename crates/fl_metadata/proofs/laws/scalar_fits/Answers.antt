use Rattle.fl_metadata.proofs.ScalarsAgain.{scalar_fits}
use Rattle.fl_metadata.proofs.laws.scalar_fits.Goals as goal

pub returns : goal.returns
returns c = scalar_fits
