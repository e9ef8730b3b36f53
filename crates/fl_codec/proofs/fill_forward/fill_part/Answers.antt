use Rattle.std.proofs.Common.{◌≡◌, ◌≢◌, ℤ, ◌+◌, ◌*◌, ◌<◌, IsTrue, length, length-set, map, option_map, unwrap_or, take, arith, subst, ap, refl, set, ◌∙◌}
use Rattle.std.proofs.lemmas.List.{length-map}
use Rattle.fastlanes.specs.Layout.{pattern_at}
use Rattle.fastlanes.proofs.Patterns.{pattern_at_set_same, pattern_at_set_other}
use Rattle.fl_types.specs.Integers.{fits, pattern_of}
use Rattle.fl_types.specs.Validities.{items_of}
use Rattle.fl_types.specs.declared.validity.Validity.TheVariants.{Array}
use Rattle.fl_codec.specs.Chunks.{chunk}
use Rattle.fl_codec.specs.ForwardFill.{filled_from, last_some}
use Rattle.fl_codec.proofs.ForwardFillLaws.{between_next, carried_next, read_by_bit}
use Rattle.fl_codec.proofs.ReferenceLaws.{unwrap_or-option_map}
use Rattle.fl_codec.proofs.WithoutNulls.{value_of_read}
use Rattle.fl_codec.proofs.fill_forward.fill_part.Goals as goal

pub loop-i-preserved : goal.loop-i-preserved
loop-i-preserved g c =
    let value = g.T.Number.value in
    let pattern = g.T.Physical.FastLanes.pattern in
    let ptype = g.T.NativePType.PTYPE in
    let items = chunk c.args.k (items_of (Array c.args.bits.now) (map value c.args.items.now)) in
    let q = 64 * c.args.j + c.loop-i.i in
    let room = c.requires.chunk in
    let part = c.requires.part in
    let more = c.loop-i-test.true in
    let index : 1024 * c.args.k + q < length c.args.items.now = omega arith in
    let inside : q < length c.loop-i.block = let whole = c.loop-i.invariant.whole in omega arith in
    let read = read_by_bit c.args.bits.now (map value c.args.items.now) c.args.k q (64 * (16 * c.args.k + c.args.j) + c.loop-i.i) _ (value c.index-items-k.result) (option_map value c.item_by_bit.result)
    (rw length-map c.requires.covers) (omega arith) (rw length-map index) (omega arith) (c.word-word.ensures c.loop-i.i more) (value_of_read value c.args.items.now _ c.index-items-k.result index c.index-items-k.is) c.item_by_bit.ensures in
    let taken = ap value c.unwrap_or-last.ensures ∙ unwrap_or-option_map value c.item_by_bit.result c.loop-i.last in
    let here : (first : ℤ) → value c.args.before ≡ unwrap_or (last_some (take (64 * c.args.j) items)) first → value c.unwrap_or-last.result ≡ filled_from first items q = λ first carried.
    carried_next first (value c.loop-i.last) (value c.unwrap_or-last.result) (option_map value c.item_by_bit.result) items q taken read (c.loop-i.invariant.last first carried) in
    let next : q + 1 ≡ 64 * c.args.j + (c.loop-i.i + 1) = omega arith in
    let same = pattern_at_set_same pattern c.loop-i.block q q c.to_physical.result refl inside in
    record {
      last = λ first carried. here first carried ∙ ap (λ n. unwrap_or (last_some (take n items)) first) next;
      done = λ first carried p low high. between_next (λ p. pattern_at pattern (set c.loop-i.block q c.to_physical.result) p ≡ pattern_of ptype (filled_from first items p)) (64 * c.args.j) q
          (λ p low high. let other : p ≢ q = omega arith in pattern_at_set_other pattern c.loop-i.block q p c.to_physical.result other ∙ c.loop-i.invariant.done first carried p low high)
          (same ∙ (c.to_physical.ensures ∙ ap (pattern_of ptype) (here first carried))) p low (omega arith);
      fit = λ first carried p low high. between_next (λ p. IsTrue (fits ptype (filled_from first items p))) (64 * c.args.j) q (c.loop-i.invariant.fit first carried) (subst (λ z. IsTrue (fits ptype z)) (here first carried) c.integer_is_in_range.ensures) p low (omega arith);
      others = λ p h. let other : p ≢ q = omega arith in pattern_at_set_other pattern c.loop-i.block q p c.to_physical.result other ∙ c.loop-i.invariant.others p h;
      whole = rw length-set c.loop-i.invariant.whole;
    }
