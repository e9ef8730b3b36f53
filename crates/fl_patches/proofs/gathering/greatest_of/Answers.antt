use Rattle.std.proofs.Common.{◌≡◌, below_more, le_trans, get_or, map, pos, ap, sym, ◌∙◌, arith}
use Rattle.std.proofs.lemmas.List.{get_or-map}
use Rattle.fl_types.specs.Integers.{pattern_of}
use Rattle.fl_patches.proofs.gathering.greatest_of.Goals as goal

pub loop-item-preserved : goal.loop-item-preserved
loop-item-preserved g c =
    let value = g.T.Number.value in
    let i = c.loop-item.item-index in
    let items = c.args.items.now in
    let here : get_or (map value items) i (pos 0) ≡ value c.item-item.result = get_or-map value items i c.item-item.result (pos 0) (omega arith) ∙ ap value (sym c.item-item.is) in
    let same : g.T.Physical.FastLanes.pattern c.to_physical.result ≡ pattern_of g.T.NativePType.PTYPE (value c.item-item.result) = c.to_physical.ensures in
    below_more _ _ (λ k h. le_trans (c.loop-item.invariant k h) c.greater-greatest.ensures.first)
    (rw (here, ← same) c.greater-greatest.ensures.second)
