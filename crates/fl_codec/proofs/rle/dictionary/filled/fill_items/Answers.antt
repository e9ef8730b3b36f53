use Rattle.std.proofs.Common.{◌<◌, ℕ, IsTrue, map, subst, ap, sym, ◌∙◌}
use Rattle.std.proofs.lemmas.List.{length-map}
use Rattle.fl_types.specs.Integers.{fits}
use Rattle.fl_codec.specs.Chunks.{chunk}
use Rattle.fl_codec.specs.ForwardFill.{Reset, fill_forward, filled_from}
use Rattle.fl_codec.specs.Parts.{items_of_primitive}
use Rattle.fl_types.specs.Integers.{pattern_of, read_as}
use Rattle.fl_codec.proofs.ForwardFillLaws.{fill_forward-reset}
use Rattle.fl_codec.proofs.ReferenceLaws.{same_items}
use Rattle.fl_codec.proofs.DictionaryLaws.{items_from_patterns}
use Rattle.fl_codec.proofs.rle.dictionary.filled.fill_items.Goals as goal

pub returns : goal.returns
returns g c =
    let value = g.T.Number.value in
    let ptype = g.T.NativePType.PTYPE in
    let k = c.args.k in
    let items = items_of_primitive c.args.array.now in
    let here = same_items value c.args.array.now c.validity.result.now c.as_slice.result.now c.validity.ensures.value c.as_slice.ensures in
    let filled_at = λ (q : ℕ) (h : q < 1024). ap (λ xs. filled_from (value c.zero.result) (chunk k xs) q) here ∙ (ap (λ b. filled_from b (chunk k items) q) c.zero.ensures ∙ sym (fill_forward-reset items k q h)) in
    items_from_patterns ptype (fill_forward Reset items) k (map value c.read_patterns.new.items) (length-map c.read_patterns.new.items value ∙ c.read_patterns.ensures.whole)
    (λ q h. c.read_patterns.ensures.items q h ∙ ap (read_as ptype) (c.fill_chunk.ensures.block q h ∙ ap (pattern_of ptype) (filled_at q h)))
    (λ q h. subst (λ z. IsTrue (fits ptype z)) (filled_at q h) (c.fill_chunk.ensures.fits q h))
