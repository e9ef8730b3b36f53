use Rattle.fastlanes.proofs.Unique.{items_read}
use Rattle.fastlanes.proofs.laws.one_unpacking.Goals as goal

pub returns : goal.returns
returns g c item word packed i h = items_read _ _ c.args.width item word g.met.W.FastLanes.shape packed i h
