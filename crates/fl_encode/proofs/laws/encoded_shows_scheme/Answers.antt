use Rattle.fl_encode.proofs.ShownLaws.{encoded_shows}
use Rattle.fl_encode.proofs.laws.encoded_shows_scheme.Goals as goal

pub returns : goal.returns
returns c = encoded_shows
