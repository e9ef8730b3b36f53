use Rattle.std.proofs.Common.{◌<◌, ◌∙◌, ℕ, arith, ap, cond, get_or, length, map, pos, sym}
use Rattle.std.proofs.lemmas.List.{length-map, length-set}
use Rattle.fl_types.specs.Bits.{bit_of_word, bits_of_word}
use Rattle.fl_scan.proofs.MaskLaws.{get_word, length_word}
use Rattle.fl_scan.proofs.SelectLaws.{one_more, selected_is}
use Rattle.fl_scan.proofs.StepLaws.{mapped_item}
use Rattle.fl_scan.proofs.folds.selecting.select.Goals as goal

pub loop-j-preserved : goal.loop-j-preserved
loop-j-preserved g c =
    let value = g.T.Number.value in
    let xs = c.args.items.now in
    let j = c.loop-j.j in
    let more = c.loop-j-test.true in
    let size = c.requires in
    let whole = c.loop-j.invariant.0 in
    let inside : j < length c.loop-j.chosen = omega arith in
    let item = λ (k : ℕ). cond (bit_of_word c.args.word k) (get_or (map value xs) k (pos 0)) (value c.args.other) in
    let read = mapped_item value xs j c.index-items-j.result (omega arith) c.index-items-j.is in
    let bit = ap (λ b. cond b (value c.index-items-j.result) (value c.args.other)) c.is_set.ensures in
    let here = ap (λ z. cond (bit_of_word c.args.word j) z (value c.args.other)) (sym read) in
    (length-set c.loop-j.chosen j c.item_or.result ∙ whole, one_more value item c.loop-j.chosen j c.item_or.result inside c.loop-j.invariant.1 (c.item_or.ensures ∙ (bit ∙ here)))

pub returns : goal.returns
returns g c =
    let value = g.T.Number.value in
    let xs = c.args.items.now in
    let size = c.requires in
    let ended = c.loop-j-test.false in
    let bits = bits_of_word c.args.word in
    let wide = length_word c.args.word in
    let long = length-map xs value in
    let mapped = length-map c.loop-j.chosen value in
    let whole = c.loop-j.invariant.0 in
    selected_is bits (map value xs) (map value c.loop-j.chosen) (value c.args.other) (omega arith) (omega arith) (λ i h.
    let few : i < 64 = omega arith in
    let below : i < c.loop-j.j = omega arith in
    c.loop-j.invariant.1 i below ∙ ap (λ b. cond b (get_or (map value xs) i (pos 0)) (value c.args.other)) (sym (get_word c.args.word i few)))
