use Rattle.std.proofs.Common.{◌≢◌, ◌||◌, ◌/◌, ◌%◌, ◌∙◌, ap, sym, inl, inr, arith, length-set}
use Rattle.std.specs.Prelude.{slice_index}
use Rattle.std.proofs.lemmas.Bool.{cases_eq}
use Rattle.fastlanes.specs.Compared.{has_bit, is_bit_set}
use Rattle.fl_bitpacking.proofs.ComparedLaws.{bit_in_word, bit_of_its_word, bit_out_of_word}
use Rattle.fl_scan.proofs.one_of.join.Goals as goal

pub loop-k-preserved : goal.loop-k-preserved
loop-k-preserved c =
    let whole = c.loop-k.invariant.whole in
    let bits = c.loop-k.bits in
    let other = c.args.other.now in
    let k = c.loop-k.k in
    record {
      done = λ i h. elim (cases_eq (i / 64) k) [
        | inl same ↦
            bit_in_word bits k c.either.result i (omega arith) same ∙ (c.either.ensures (i % 64) (omega arith)
            ∙ (ap (λ b. b || is_bit_set (slice_index other k) (i % 64)) (sym (bit_of_its_word bits k i same) ∙ c.loop-k.invariant.rest i (omega arith))
            ∙ ap (λ b. has_bit c.args.bits.now i || b) (sym (bit_of_its_word other k i same))))
        | inr differs ↦ bit_out_of_word bits k c.either.result i differs ∙ c.loop-k.invariant.done i (omega arith)
      ];
      rest = λ i h. (let differs : i / 64 ≢ k = omega arith in bit_out_of_word bits k c.either.result i differs ∙ c.loop-k.invariant.rest i (omega arith));
      whole = rw length-set whole;
    }
