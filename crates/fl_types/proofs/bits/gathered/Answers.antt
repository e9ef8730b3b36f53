use Rattle.std.proofs.Common.{ℕ, ap, refl, ◌∙◌, arith}
use Rattle.std.specs.Int.{trailing_zeros, w64}
use Rattle.std.proofs.lemmas.Nat.Bits.{bit_at-trailing_zeros}
use Rattle.fl_types.specs.Bits.{bit_of_word, tabulate, true_count}
use Rattle.fl_types.proofs.ClearedBits.{gather_next}
use Rattle.fl_types.proofs.KeptLaws.{bit_stays, bit_true, gather_end, gather_start, gather_step, unset_in_mask, unset_in_word}
use Rattle.fl_types.proofs.bits.gathered.Goals as goal

pub loop-step-init : goal.loop-step-init
loop-step-init c = record {
  masked = unset_in_mask c.args.word c.args.mask;
  unset = λ j. unset_in_word c.args.word c.args.mask j (omega arith);
  bits = gather_start c.args.word c.args.mask (omega arith) (omega arith);
}

pub loop-step-preserved : goal.loop-step-preserved
loop-step-preserved c =
    let place = ap (λ (n : ℕ). true_count (tabulate (bit_of_word c.args.mask) n)) c.min.ensures in
    rw c.saturating_sub-rest.ensures (gather_next c.args.word c.args.mask c.loop-step.gathered c.without_bit_if-gathered.result c.loop-step.rest c.ones_below-at.result _ (omega arith) (omega arith) refl (c.ones_below-at.ensures.ones ∙ place)
    c.without_bit_if-gathered.ensures.here c.without_bit_if-gathered.ensures.others c.loop-step.invariant)

pub loop-rest-init : goal.loop-rest-init
loop-rest-init c = c.loop-step.invariant

pub loop-rest-preserved : goal.loop-rest-preserved
loop-rest-preserved c =
    let rest = c.loop-rest.rest in
    let t = trailing_zeros w64 rest in
    let place = bit_at-trailing_zeros w64 rest (omega arith) (omega arith) in
    let on = bit_true rest t place.1 in
    record {
      masked = λ j h. c.loop-rest.invariant.masked j (bit_stays rest t j place.1 place.2 h);
      unset = λ j few h. c.loop-rest.invariant.unset j few (bit_stays rest t j place.1 place.2 h);
      bits = gather_step c.args.word c.args.mask c.loop-rest.gathered c.without_bit-gathered.result rest t c.ones_below.result (omega arith) place.0 place.1 place.2
          (c.loop-rest.invariant.masked t on) (c.loop-rest.invariant.unset t place.0 on) c.ones_below.ensures.ones c.without_bit-gathered.ensures.here c.without_bit-gathered.ensures.others c.loop-rest.invariant.bits;
    }

pub returns : goal.returns
returns c = gather_end c.args.word c.args.mask c.loop-rest.gathered c.loop-rest.rest (omega arith) c.loop-rest.invariant.bits
