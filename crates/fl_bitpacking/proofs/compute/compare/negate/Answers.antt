use Rattle.std.proofs.Common.{◌≢◌, ◌/◌, ◌%◌, ◌∙◌, ap, sym, not, inl, inr, arith, length-set}
use Rattle.std.proofs.lemmas.Bool.{cases_eq}
use Rattle.fl_bitpacking.proofs.ComparedLaws.{bit_in_word, bit_of_its_word, bit_out_of_word}
use Rattle.fl_bitpacking.proofs.compute.compare.negate.Goals as goal

pub loop-k-preserved : goal.loop-k-preserved
loop-k-preserved c =
    let whole = c.loop-k.invariant.whole in
    let bits = c.loop-k.bits in
    let k = c.loop-k.k in
    record {
      done = λ i h. elim (cases_eq (i / 64) k) [
        | inl same ↦
            bit_in_word bits k c.flipped.result i (omega arith) same ∙ (c.flipped.ensures (i % 64) (omega arith)
            ∙ ap not (sym (bit_of_its_word bits k i same) ∙ c.loop-k.invariant.rest i (omega arith)))
        | inr other ↦ bit_out_of_word bits k c.flipped.result i other ∙ c.loop-k.invariant.done i (omega arith)
      ];
      rest = λ i h. (let other : i / 64 ≢ k = omega arith in bit_out_of_word bits k c.flipped.result i other ∙ c.loop-k.invariant.rest i (omega arith));
      whole = rw length-set whole;
    }
