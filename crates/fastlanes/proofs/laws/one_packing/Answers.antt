use Rattle.fastlanes.proofs.Unique.{same_words}
use Rattle.fastlanes.proofs.laws.one_packing.Goals as goal

pub returns : goal.returns
returns g c item same word other low one two fits = same_words _ _ c.args.width item same word other g.met.W.FastLanes.shape low one two fits
