use Rattle.std.proofs.Common.{◌≡◌, ◌<◌, ◌*◌, ◌+◌, arith, ◌∙◌, ap}
use Rattle.std.proofs.lemmas.List.{length_push}
use Rattle.fl_types.specs.Bits.{is_set}
use Rattle.fl_types.proofs.BitLists.{words_more}
use Rattle.fl_types.proofs.bits.words_from.Goals as goal

pub loop-k-preserved : goal.loop-k-preserved
loop-k-preserved c =
    let k = c.loop-k.k in
    let start = c.args.start in
    let old = c.args.words.now in
    record {
      count = rw c.in_ok-push.ensures.items (omega (arith, length_push c.loop-k.moved.items c.word_from.result));
      bits = λ i h below. rw c.in_ok-push.ensures.items (words_more (λ i b. i < c.args.len → b ≡ is_set old (start + i)) c.loop-k.moved.items c.word_from.result k (64 * k) 64 c.loop-k.invariant.count (omega arith) (omega arith) c.loop-k.invariant.bits
          (λ j small inside. c.word_from.ensures j small (omega arith) ∙ ap (is_set old) (let sum : start + 64 * k + j ≡ start + (64 * k + j) = omega arith in sum)) i (omega arith) below);
    }
