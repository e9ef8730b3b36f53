-- said here, where the search finds it too: a body that breaks it is refused at once
use Rattle.std.proofs.Common.{refl}
use Rattle.fastlanes.specs.Layout.{segment}
use Rattle.fastlanes.proofs.layout.seg.Goals as goal

pub returns : goal.returns
unfolding segment
returns c = refl
