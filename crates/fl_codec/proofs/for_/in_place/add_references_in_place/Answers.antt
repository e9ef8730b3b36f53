use Rattle.std.proofs.Common.{◌≡◌, ◌<◌, ◌+◌, ◌-◌, ◌/◌, ◌+ℤ◌, ◌∙◌, ℕ, ℤ, pos, ap, get_or, length, map, take, drop, length-take, length-drop, arith}
use Rattle.std.proofs.lemmas.Slice.{drop-put_mid}
use Rattle.fl_types.specs.Integers.{wrap}
use Rattle.fl_codec.proofs.WithoutNulls.{part_left, part_mapped, part_written, sums_made, value_of_read}
use Rattle.fl_codec.proofs.for_.in_place.add_references_in_place.Goals as goal

pub loop-k-preserved : goal.loop-k-preserved
loop-k-preserved g c =
    let value = g.T.Number.value in
    let ptype = g.T.NativePType.PTYPE in
    let first = map value c.args.values.now in
    let offset = c.args.offset in
    let references = map value c.args.references.now in
    let values = c.loop-k.values in
    let new = c.add_in_place.new.values in
    let k = c.loop-k.k in
    let from = c.part_of_chunk-start.result.0 in
    let to = c.part_of_chunk-start.result.1 in
    let from_is = c.part_of_chunk-start.ensures.start in
    let to_is = c.part_of_chunk-start.ensures.end in
    let order = c.part_of_chunk-start.ensures.order in
    let range = c.part_of_chunk-start.ensures.range in
    let more = c.loop-k-test.true in
    let last = c.chunk_count-k-end.ensures in
    let enough = c.requires.references in
    let long = c.loop-k.auto.values in
    let taken = length-take (to - from) (drop from values) in
    let rest = length-drop from values in
    let size : length (take (to - from) (drop from values)) ≡ to - from = omega arith in
    let written : length new ≡ to - from = c.add_in_place.auto.values ∙ size in
    let sum : ℕ → ℤ = λ i. wrap ptype (get_or first i (pos 0) +ℤ get_or references ((offset + i) / 1024) (pos 0)) in
    let named : k < length c.args.references.now = omega arith in
    let reference = value_of_read value c.args.references.now k c.index-references-k.result named c.index-references-k.is in
    let at : (i : ℕ) → i < to - from → get_or (map value new) i (pos 0) ≡ sum (from + i) = λ i below.
    (let place : (offset + (from + i)) / 1024 ≡ k = omega arith in
    rw place (part_mapped value (λ z. wrap ptype (z +ℤ value c.index-references-k.result)) values new from to i (omega arith) below c.add_in_place.ensures
    ∙ (ap (λ z. wrap ptype (z +ℤ value c.index-references-k.result)) (c.loop-k.invariant.left (from + i) (omega arith))
    ∙ ap (λ r. wrap ptype (get_or first (from + i) (pos 0) +ℤ r)) reference))) in
    record {
      done = λ j h. part_written value sum values new _ from to j (omega arith) written (λ i below. c.loop-k.invariant.done i (omega arith)) at (omega arith);
      left = λ j h. part_left value values _ to j (drop-put_mid from (to - from) values new to (omega arith) (omega arith) written) (omega arith) ∙ c.loop-k.invariant.left j (omega arith);
    }

pub returns : goal.returns
returns g c =
    let last = c.chunk_count-k-end.ensures in
    let over = c.loop-k-test.false in
    sums_made g.T.Number.value g.T.NativePType.PTYPE (map g.T.Number.value c.args.references.now) c.args.offset c.args.values.now c.loop-k.values c.loop-k.auto.values (λ j h. c.loop-k.invariant.done j (omega arith))
