use Rattle.std.proofs.Common.{◌≡◌, ◌<◌, IsTrue, length, length-set, map, option_map, unwrap_or, take, arith, subst, ap, ◌∙◌}
use Rattle.fastlanes.proofs.Patterns.{pattern_filled}
use Rattle.fl_types.specs.Integers.{fits, pattern_of}
use Rattle.fl_types.specs.Validities.{items_of}
use Rattle.fl_codec.specs.Chunks.{chunk}
use Rattle.fl_codec.specs.ForwardFill.{filled_from, last_some}
use Rattle.fl_codec.proofs.ForwardFillLaws.{below_next, carried_next, last_of_chunk}
use Rattle.fl_codec.proofs.ReferenceLaws.{unwrap_or-option_map}
use Rattle.fl_codec.proofs.fill_forward.fill_any_chunk.Goals as goal

pub loop-q-preserved : goal.loop-q-preserved
loop-q-preserved g c =
    let value = g.T.Number.value in
    let ptype = g.T.NativePType.PTYPE in
    let items = chunk c.args.k (items_of c.args.validity.now (map value c.args.items.now)) in
    let q = c.loop-q.q in
    let taken = ap value c.unwrap_or-last.ensures ∙ unwrap_or-option_map value c.item_in_chunk.result c.loop-q.last in
    let here = carried_next (value c.args.before) (value c.loop-q.last) (value c.unwrap_or-last.result) (option_map value c.item_in_chunk.result) items q taken c.item_in_chunk.ensures c.loop-q.invariant.last in
    let fit : IsTrue (fits ptype (filled_from (value c.args.before) items q)) = subst (λ z. IsTrue (fits ptype z)) here c.integer_is_in_range.ensures in
    let inside : q < length c.loop-q.block = let whole = c.loop-q.invariant.whole in omega arith in
    record {
      last = here;
      done = pattern_filled g.T.Physical.FastLanes.pattern (λ j. pattern_of ptype (filled_from (value c.args.before) items j)) c.loop-q.block q c.to_physical.result inside c.loop-q.invariant.done (c.to_physical.ensures ∙ ap (pattern_of ptype) here);
      fit = below_next (λ j. IsTrue (fits ptype (filled_from (value c.args.before) items j))) q c.loop-q.invariant.fit fit;
      whole = rw length-set c.loop-q.invariant.whole;
    }

pub returns-clause-last : goal.returns-clause-last
returns-clause-last g c =
    let value = g.T.Number.value in
    let items = items_of c.args.validity.now (map value c.args.items.now) in
    let full : c.loop-q.q ≡ 1024 = omega arith in
    c.loop-q.invariant.last ∙ ap (λ x. unwrap_or x (value c.args.before)) (ap (λ n. last_some (take n (chunk c.args.k items))) full ∙ last_of_chunk items c.args.k)
