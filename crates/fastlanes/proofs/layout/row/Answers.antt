-- said here, where the search finds it too: a body that breaks it is refused at once
use Rattle.std.proofs.Common.{refl}
use Rattle.fastlanes.specs.Layout.{row_of}
use Rattle.fastlanes.proofs.layout.row.Goals as goal

pub returns : goal.returns
unfolding row_of
returns c = refl
