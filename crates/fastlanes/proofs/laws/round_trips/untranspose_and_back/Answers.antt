use Rattle.std.proofs.Common.{arith}
use Rattle.fastlanes.proofs.Wholes.{same_list, one_stored}
use Rattle.fastlanes.proofs.laws.round_trips.untranspose_and_back.Goals as goal

pub returns-clause-back : goal.returns-clause-back
returns-clause-back g c = same_list g.W.FastLanes.pattern g.met.W.FastLanes.one_word _ _ (omega arith) (λ i h.
    one_stored _ _ _ _ _ g.met.W.FastLanes.shape c.transpose.ensures.moved c.untranspose.ensures.moved i (omega arith))
