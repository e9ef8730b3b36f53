use Rattle.std.proofs.Common.{◌≡◌, ◌+◌, ◌*◌, arith, ap, ◌∙◌, length-set}
use Rattle.fl_types.specs.Bits.{is_set}
use Rattle.fl_types.proofs.MovedBits.{moved_more, kept_bits}
use Rattle.fl_types.proofs.bits.shift_words.Goals as goal

pub loop-k-preserved : goal.loop-k-preserved
loop-k-preserved c =
    let k = c.loop-k.k in
    let words = c.loop-k.words.items in
    let old = c.args.words.now.items in
    let whole = c.loop-k.invariant.whole in
    let count = c.word_count-k-end.ensures in
    let more = c.loop-k-test.true in
    let read = rw c.as_slice.ensures.value at c.word_from-word.ensures in
    record {
      whole = length-set words k c.word_from-word.result ∙ whole;
      moved = moved_more old words k c.args.start c.word_from-word.result c.args.len (omega arith) c.loop-k.invariant.moved
          (λ j h below. read j h (omega arith) ∙ (c.loop-k.invariant.kept (c.args.start + 64 * k + j) (omega arith)
          ∙ ap (is_set old) (let sum : c.args.start + 64 * k + j ≡ c.args.start + (64 * k + j) = omega arith in sum)));
      kept = λ i h. kept_bits words k c.word_from-word.result i (omega arith) ∙ c.loop-k.invariant.kept i (omega arith);
    }
