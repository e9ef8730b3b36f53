use Rattle.std.proofs.Common.{◌≡◌, ◌<◌, ◌^◌, ◌∙◌, pos, get_or, length, map, nat_lt, ap, arith, sym, inl, inr}
use Rattle.std.proofs.lemmas.Bool.{cases_eq}
use Rattle.std.proofs.lemmas.List.{get_or-map}
use Rattle.fl_types.specs.Bits.{bit_of_word}
use Rattle.fl_types.specs.Integers.{pattern_of}
use Rattle.fl_types.proofs.BitLists.{no_bit}
use Rattle.fl_patches.specs.Exceptions.{bit_count}
use Rattle.fl_patches.proofs.gathering.marks_of.Goals as goal

pub loop-j-init : goal.loop-j-init
loop-j-init g c = record { marks = λ i h. absurd (omega arith); clear = λ i h. no_bit i; within = omega arith }

pub loop-j-preserved : goal.loop-j-preserved
loop-j-preserved g c =
    let t = g.T.NativePType.PTYPE in
    let value = g.T.Number.value in
    let items = c.args.items.now in
    let j = c.loop-j.j in
    let more : j < length items = c.loop-j-test.true in
    let fits : c.pattern.result < 2 ^ 64 = omega arith in
    let read : value c.index-items-j.result ≡ get_or (map value items) j (pos 0) = ap value c.index-items-j.is ∙ sym (get_or-map value items j c.index-items-j.result (pos 0) more) in
    let here : bit_of_word c.with_bit-marks.result j ≡ nat_lt c.args.width (bit_count (pattern_of t (get_or (map value items) j (pos 0)))) = c.with_bit-marks.ensures.bit ∙ (c.most_of-most.ensures c.pattern.result fits ∙ ap (λ p. nat_lt c.args.width (bit_count p)) (c.pattern.ensures ∙ ap (pattern_of t) read)) in
    record {
      marks = λ i h. elim (cases_eq i j) [
        | inl same ↦ rw same here
        | inr other ↦ c.with_bit-marks.ensures.others i other ∙ c.loop-j.invariant.marks i (omega arith)
      ];
      clear = λ i h. c.with_bit-marks.ensures.others i (omega arith) ∙ c.loop-j.invariant.clear i (omega arith);
      within = omega arith;
    }
