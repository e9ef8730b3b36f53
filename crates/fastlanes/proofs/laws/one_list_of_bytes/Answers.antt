use Rattle.fastlanes.proofs.SameBytes.{same_bytes}
use Rattle.fastlanes.proofs.laws.one_list_of_bytes.Goals as goal

pub returns : goal.returns
returns g c bytes others count size size' small same = same_bytes _ _ bytes others count g.met.W.FastLanes.shape size size' (λ i. (small i).0) (λ i. (small i).1) same
