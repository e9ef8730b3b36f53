use Rattle.std.proofs.Common.{◌≡◌, ◌<◌, ap, get_or, length, map, pos, set, unsigned_abs, inl, inr, arith, sym, ◌∙◌}
use Rattle.std.proofs.lemmas.Bool.{cases_eq}
use Rattle.std.proofs.lemmas.List.{get_or-set_other, get_or-set_same, length-map, map-set}
use Rattle.fl_column.proofs.GatherLaws.{value_read}
use Rattle.fl_codec.proofs.rle.decoding.write_named_or_last.Goals as goal

pub loop-i-preserved : goal.loop-i-preserved
loop-i-preserved g c j below names =
    let value = g.T.Number.value in
    let items = c.loop-i.items in
    let i = c.loop-i.i in
    let kept = c.loop-i.auto.items in
    let more = c.loop-i-test.true in
    let long = c.requires.long in
    let inside : i < length (map value items) = let same = length-map items value in omega arith in
    let index = value_read g.I.Number.value c.args.indices.now i c.index-indices-i.result c.index-indices-i.is (omega arith) in
    let is = c.unsigned_abs.ensures in
    let least = c.min.ensures in
    let some = c.requires.some in
    let here = map-set value items i c.index-values-min.result in
    elim (cases_eq j i) [
      | inl same ↦
          let at : unsigned_abs (get_or (map g.I.Number.value c.args.indices.now) j (pos 0)) ≡ c.unsigned_abs.result = ap (λ m. unsigned_abs (get_or (map g.I.Number.value c.args.indices.now) m (pos 0))) same ∙ (ap unsigned_abs index ∙ sym is) in
          let place : c.min.result ≡ c.unsigned_abs.result = let low = rw at at names in omega arith in
          let read = value_read value c.args.values.now c.min.result c.index-values-min.result c.index-values-min.is (omega arith) in
          ap (λ ys. get_or ys j (pos 0)) here ∙ (ap (λ m. get_or (set (map value items) i (value c.index-values-min.result)) m (pos 0)) same ∙ (get_or-set_same (map value items) i (value c.index-values-min.result) (pos 0) inside
          ∙ (sym read ∙ ap (λ m. get_or (map value c.args.values.now) m (pos 0)) (place ∙ sym at))))
      | inr other ↦ ap (λ ys. get_or ys j (pos 0)) here ∙ (get_or-set_other (map value items) i j (value c.index-values-min.result) (pos 0) other ∙ c.loop-i.invariant j (omega arith) names)
    ]
