use Rattle.std.proofs.Common.{◌≡◌, ◌<◌, ◌+◌, ◌-◌, ◌*◌, ◌/◌, ◌∙◌, ℕ, ℤ, pos, None, ap, arith, get_or, length, length-take, length-drop, map, take, drop}
use Rattle.std.proofs.lemmas.List.{length-map}
use Rattle.std.proofs.lemmas.List.FromFn.{fill_by_all}
use Rattle.fl_types.specs.Bits.{bit_of_word}
use Rattle.fl_types.specs.Validities.{is_valid_at, items_of}
use Rattle.fl_codec.specs.FoRColumns.{minus_reference}
use Rattle.fl_codec.proofs.WithNulls.{word_item}
use Rattle.fl_codec.proofs.WithoutNulls.{part_written}
use Rattle.fl_codec.proofs.for_.with_nulls.subtract.Goals as goal

pub loop-k-preserved : goal.loop-k-preserved
loop-k-preserved g c j h =
    let value = g.T.Number.value in
    let less = minus_reference g.T.NativePType.PTYPE (value c.args.reference) in
    let items = c.args.items.now in
    let start = c.args.start in
    let slots = c.loop-k.slots in
    let new = c.subtract_word.new.slots in
    let k = c.loop-k.k in
    let from = 64 * k in
    let to = c.word_end-to.result in
    let to_is = c.word_end-to.ensures in
    let more = c.loop-k-test.true in
    let count = c.word_count-k-end.ensures in
    let range = c.requires.range in
    let aligned = c.requires.aligned in
    let long : length slots ≡ length c.args.slots.now = c.loop-k.auto.slots in
    let taken = length-take (to - from) (drop from slots) in
    let rest = length-drop from slots in
    let size : length (take (to - from) (drop from slots)) ≡ to - from = omega arith in
    let written : length new ≡ to - from = c.subtract_word.auto.slots ∙ size in
    let part_taken = length-take ((start + to) - (start + from)) (drop (start + from) items) in
    let part_rest = length-drop (start + from) items in
    let part : length (take ((start + to) - (start + from)) (drop (start + from) items)) ≡ to - from = omega arith in
    let slot : ℕ → ℤ = λ i. less (get_or (items_of c.args.validity.now (map value items)) (start + i) None) in
    let at : (i : ℕ) → i < to - from → get_or (map value new) i (pos 0) ≡ slot (from + i) = λ i below.
    (let place : 64 * (start / 64 + k) + i ≡ (start + from) + i = omega arith in
    let whole : (start + from) + i ≡ start + (from + i) = omega arith in
    let bit : bit_of_word c.validity_word-word.result i ≡ is_valid_at c.args.validity.now ((start + from) + i) = c.validity_word-word.ensures i (omega arith) (omega arith) ∙ ap (is_valid_at c.args.validity.now) place in
    let item = word_item value c.args.validity.now items c.validity_word-word.result (start + from) (start + to) i c.requires.covers (omega arith) (omega arith) bit in
    c.subtract_word.ensures i (omega arith) ∙ (ap less item ∙ ap (λ n. less (get_or (items_of c.args.validity.now (map value items)) n None)) whole)) in
    part_written value slot slots new _ from to j (omega arith) written (λ i below. c.loop-k.invariant i (omega arith)) at (omega arith)

pub returns : goal.returns
returns g c =
    let value = g.T.Number.value in
    let less = minus_reference g.T.NativePType.PTYPE (value c.args.reference) in
    let slot : ℕ → ℤ = λ i. less (get_or (items_of c.args.validity.now (map value c.args.items.now)) (c.args.start + i) None) in
    let kept : length c.loop-k.slots ≡ length c.args.slots.now = c.loop-k.auto.slots in
    let count = c.word_count-k-end.ensures in
    let over = c.loop-k-test.false in
    fill_by_all slot (map value c.loop-k.slots) (length c.args.slots.now) (pos 0) (length-map c.loop-k.slots value ∙ kept) (λ i h. c.loop-k.invariant i (omega arith))
