use Rattle.std.proofs.Common.{◌+◌, ◌≢◌, arith, ◌∙◌}
use Rattle.fl_types.proofs.BitLists.{bits_more, no_bit}
use Rattle.fl_types.proofs.bits.word_of.Goals as goal

pub loop-j-init : goal.loop-j-init
loop-j-init g c = record { clear = λ j h. no_bit j; bits = λ j h. absurd (omega arith) }

pub loop-j-preserved : goal.loop-j-preserved
loop-j-preserved g c = record {
  clear = λ j h. let away : j ≢ c.loop-j.j = omega arith in c.with_bit-word.ensures.others j away ∙ c.loop-j.invariant.clear j (omega arith);
  bits = bits_more (λ j b. goal.F-post g c.args.bit.now (c.args.start + j) b) c.loop-j.word _ c.loop-j.j _ c.loop-j.invariant.bits c.with_bit-word.ensures.others c.with_bit-word.ensures.bit c.bit.ensures;
}
