use Rattle.std.proofs.Common.{◌≢◌, ◌*◌, sym, arith}
use Rattle.fl_types.proofs.WordBits.{unequal_word, equal_word, equal_bits}
use Rattle.fl_types.proofs.bits.BitListPartialEq.eq.Goals as goal

pub returns-then-word : goal.returns-then-word
returns-then-word c =
    let differ : c.word.result ≢ c.word-in-loop-k.result = omega arith in
    sym (unequal_word c.args.self.now c.args.other.now c.loop-k.k c.word.result c.word-in-loop-k.result (omega arith) (omega arith) c.word.ensures c.word-in-loop-k.ensures differ)

pub loop-k-preserved : goal.loop-k-preserved
loop-k-preserved c = record {
  same_length = c.loop-k.invariant.same_length;
  same = equal_word c.args.self.now c.args.other.now c.loop-k.k c.word.result c.word-in-loop-k.result c.word.ensures c.word-in-loop-k.ensures (omega arith) c.loop-k.invariant.same;
}

pub returns : goal.returns
returns c = sym (equal_bits c.args.self.now c.args.other.now (64 * c.loop-k.k) c.loop-k.invariant.same_length (omega arith) c.loop-k.invariant.same)
