use Rattle.std.proofs.Common.{◌≢◌, ◌*◌, arith}
use Rattle.fl_types.proofs.BitTests.{all_bits, one_more_word, other_word}
use Rattle.fl_types.proofs.bits.BitList.are_all.Goals as goal

pub returns-then-word-repeated : goal.returns-then-word-repeated
returns-then-word-repeated c =
    let differ : c.word.result ≢ c.repeated.result = omega arith in
    other_word c.args.bit c.args.self.now c.loop-k.k c.word.result c.repeated.result (omega arith) (omega arith) c.word.ensures (λ j h below. c.repeated.ensures.low j h (omega arith)) (λ j above. c.repeated.ensures.clear j (omega arith)) differ

pub loop-k-preserved : goal.loop-k-preserved
loop-k-preserved c = one_more_word c.args.bit c.args.self.now c.loop-k.k c.word.result c.repeated.result c.word.ensures (λ j h below. c.repeated.ensures.low j h (omega arith)) (omega arith) c.loop-k.invariant

pub returns : goal.returns
returns c = all_bits c.args.bit c.args.self.now (64 * c.loop-k.k) (omega arith) c.loop-k.invariant
