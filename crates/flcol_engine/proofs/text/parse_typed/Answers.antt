use Rattle.flcol_engine.proofs.ParseLemmas.{item_parsed}
use Rattle.flcol_engine.proofs.text.parse_typed.Goals as goal

pub loop-rest-preserved : goal.loop-rest-preserved
loop-rest-preserved g c = item_parsed _ _ _ _ _ _ _ _ _ _ c.loop-rest.invariant c.in-Some.ensures.some c.in_ok-push_item.ensures.one_more
