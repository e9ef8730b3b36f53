use Rattle.std.proofs.Common.{◌<◌, ◌++◌, ℕ, IsTrue, arith, rules, subst, ap, sym, ◌∙◌}
use Rattle.fastlanes.specs.Layout.{pattern_at}
use Rattle.fl_types.specs.Integers.{fits, pattern_of}
use Rattle.fl_codec.specs.Chunks.{chunk}
use Rattle.fl_codec.specs.ForwardFill.{Reset, fill_forward, filled_from}
use Rattle.fl_codec.specs.Parts.{items_of_primitive}
use Rattle.fl_codec.specs.Runs.{values_to}
use Rattle.fl_codec.proofs.ForwardFillLaws.{fill_forward-reset}
use Rattle.fl_codec.proofs.ReferenceLaws.{covered_read, length_of_values, same_items}
use Rattle.fl_codec.proofs.RunLaws.{indices_of_chunk, values_more, values_of_chunk}
use Rattle.fl_codec.proofs.rle.blocks.write_runs.Goals as goal

pub returns-clause-values : goal.returns-clause-values
returns-clause-values g c =
    let value = g.T.Number.value in
    let ptype = g.T.NativePType.PTYPE in
    let pattern = g.T.Physical.FastLanes.pattern in
    let k = c.args.k in
    let items = items_of_primitive c.args.array.now in
    let here = same_items value c.args.array.now c.validity.result.now c.as_slice.result.now c.validity.ensures.value c.as_slice.ensures in
    let filled_at = λ (q : ℕ) (h : q < 1024). ap (λ xs. filled_from (value c.zero.result) (chunk k xs) q) here ∙ (ap (λ b. filled_from b (chunk k items) q) c.zero.ensures ∙ sym (fill_forward-reset items k q h)) in
    ap (λ ys. values_to items k ++ ys) (values_of_chunk pattern ptype (fill_forward Reset items) k (pattern_at pattern c.fill_chunk.new.block) c.rle_encode-count.new.values c.rle_encode-count.result (let few = c.rle_encode-count.ensures.few in let long = c.told-rle in search rules) c.rle_encode-count.ensures.count
    (λ q h. c.fill_chunk.ensures.block q h ∙ ap (pattern_of ptype) (filled_at q h))
    (λ q h. subst (λ z. IsTrue (fits ptype z)) (filled_at q h) (c.fill_chunk.ensures.fits q h))
    c.rle_encode-count.ensures.values)
    ∙ sym (values_more items k)

pub returns-clause-indices : goal.returns-clause-indices
returns-clause-indices g c =
    let value = g.T.Number.value in
    let ptype = g.T.NativePType.PTYPE in
    let pattern = g.T.Physical.FastLanes.pattern in
    let k = c.args.k in
    let items = items_of_primitive c.args.array.now in
    let here = same_items value c.args.array.now c.validity.result.now c.as_slice.result.now c.validity.ensures.value c.as_slice.ensures in
    let filled_at = λ (q : ℕ) (h : q < 1024). ap (λ xs. filled_from (value c.zero.result) (chunk k xs) q) here ∙ (ap (λ b. filled_from b (chunk k items) q) c.zero.ensures ∙ sym (fill_forward-reset items k q h)) in
    indices_of_chunk ptype items k (pattern_at pattern c.fill_chunk.new.block) c.rle_encode-count.new.indices c.rle_encode-count.array_long
    (λ q h. c.fill_chunk.ensures.block q h ∙ ap (pattern_of ptype) (filled_at q h))
    (λ q h. subst (λ z. IsTrue (fits ptype z)) (filled_at q h) (c.fill_chunk.ensures.fits q h))
    c.rle_encode-count.ensures.indices

pub fill_chunk-requires : goal.fill_chunk-requires
fill_chunk-requires g c =
    let p = c.args.array.now in
    let long = length_of_values g.T.Number.value c.as_slice.result.now p.slots c.as_slice.ensures in
    let room = c.requires.chunk in
    (search rules, (covered_read g.T.Number.value p c.validity.result.now c.as_slice.result.now c.validity.ensures.value c.validity.ensures.covers c.as_slice.ensures, omega arith))
