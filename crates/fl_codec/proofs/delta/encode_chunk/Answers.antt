use Rattle.std.proofs.Common.{◌<◌, ℕ, IsTrue, unwrap_or, arith, rules, subst, ap, sym, ◌∙◌}
use Rattle.fastlanes.specs.Layout.{pattern_at}
use Rattle.fl_types.specs.Integers.{fits, pattern_of}
use Rattle.fl_codec.specs.Chunks.{chunk}
use Rattle.fl_codec.specs.ForwardFill.{Carry, fill_forward, filled_from, last_some}
use Rattle.fl_codec.specs.Parts.{items_of_primitive}
use Rattle.fl_codec.proofs.DeltaLaws.{bases_of_chunk, deltas_of_chunk, few_lanes}
use Rattle.fl_codec.proofs.ForwardFillLaws.{carried_more, fill_forward-carry}
use Rattle.fl_codec.proofs.ReferenceLaws.{covered_read, length_of_values, same_items}
use Rattle.fl_codec.proofs.delta.encode_chunk.Goals as goal

pub returns-clause-last : goal.returns-clause-last
returns-clause-last g c =
    let items = items_of_primitive c.args.array.now in
    let here = same_items g.T.Number.value c.args.array.now c.validity.result.now c.as_slice.result.now c.validity.ensures.value c.as_slice.ensures in
    c.fill_chunk-last.ensures.last ∙ (ap (λ xs. unwrap_or (last_some (chunk c.args.k xs)) (g.T.Number.value c.args.last)) here ∙ (ap (λ b. unwrap_or (last_some (chunk c.args.k items)) b) c.requires.last ∙ carried_more items c.args.k))

pub returns-clause-bases : goal.returns-clause-bases
returns-clause-bases g c = λ before so.
    let value = g.T.Number.value in
    let ptype = g.T.NativePType.PTYPE in
    let pattern = g.T.Physical.FastLanes.pattern in
    let k = c.args.k in
    let items = items_of_primitive c.args.array.now in
    let here = same_items g.T.Number.value c.args.array.now c.validity.result.now c.as_slice.result.now c.validity.ensures.value c.as_slice.ensures in
    let filled_at = λ (q : ℕ) (h : q < 1024). ap (λ xs. filled_from (value c.args.last) (chunk k xs) q) here ∙ (ap (λ b. filled_from b (chunk k items) q) c.requires.last ∙ sym (fill_forward-carry items k q h)) in
    let long = c.encode_block.ensures.stored in
    bases_of_chunk pattern ptype g.T.Physical.FastLanes.T g.T.Physical.FastLanes.LANES k (fill_forward Carry items) (pattern_at pattern c.fill_chunk-last.new.block) c.encode_block.new.stored
    g.met.T.Physical.FastLanes.shape g.met.T.PhysicalPType.width_law (let few = few_lanes g.T.Physical.FastLanes.T g.T.Physical.FastLanes.LANES g.met.T.Physical.FastLanes.shape in omega arith)
    (λ q h. c.fill_chunk-last.ensures.block q h ∙ ap (pattern_of ptype) (filled_at q h))
    (λ q h. subst (λ z. IsTrue (fits ptype z)) (filled_at q h) (c.fill_chunk-last.ensures.fits q h))
    c.encode_block.ensures.bases before so

pub returns-clause-deltas : goal.returns-clause-deltas
returns-clause-deltas g c = λ before so.
    let value = g.T.Number.value in
    let ptype = g.T.NativePType.PTYPE in
    let pattern = g.T.Physical.FastLanes.pattern in
    let k = c.args.k in
    let items = items_of_primitive c.args.array.now in
    let here = same_items g.T.Number.value c.args.array.now c.validity.result.now c.as_slice.result.now c.validity.ensures.value c.as_slice.ensures in
    let filled_at = λ (q : ℕ) (h : q < 1024). ap (λ xs. filled_from (value c.args.last) (chunk k xs) q) here ∙ (ap (λ b. filled_from b (chunk k items) q) c.requires.last ∙ sym (fill_forward-carry items k q h)) in
    deltas_of_chunk pattern ptype g.T.Physical.FastLanes.T g.T.Physical.FastLanes.LANES k (fill_forward Carry items) (pattern_at pattern c.fill_chunk-last.new.block) c.encode_block.new.block
    g.met.T.Physical.FastLanes.shape g.met.T.PhysicalPType.width_law c.encode_block.ensures.whole
    (λ q h. c.fill_chunk-last.ensures.block q h ∙ ap (pattern_of ptype) (filled_at q h))
    c.encode_block.ensures.deltas before so

pub fill_chunk-last-requires : goal.fill_chunk-last-requires
fill_chunk-last-requires g c =
    let p = c.args.array.now in
    let long = length_of_values g.T.Number.value c.as_slice.result.now p.slots c.as_slice.ensures in
    let room = c.requires.chunk in
    (search rules, (covered_read g.T.Number.value p c.validity.result.now c.as_slice.result.now c.validity.ensures.value c.validity.ensures.covers c.as_slice.ensures, omega arith))
