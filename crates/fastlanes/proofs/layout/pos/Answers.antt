-- said here, where the search finds it too: a body that breaks it is refused at once
use Rattle.std.proofs.Common.{refl}
use Rattle.fastlanes.specs.Layout.{place}
use Rattle.fastlanes.proofs.layout.pos.Goals as goal

pub returns : goal.returns
unfolding place
returns c = refl
