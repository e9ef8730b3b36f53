use Rattle.std.proofs.Common.{◌≡◌, ℕ, ◌<◌, ◌*◌, arith}
use Rattle.std.specs.Prelude.{slice_index}
use Rattle.std.proofs.lemmas.List.{length_push}
use Rattle.fl_types.proofs.BitLists.{words_more}
use Rattle.fl_column.specs.Bitmaps.{bit_in}
use Rattle.fl_column.proofs.BitmapLaws.{word_in}
use Rattle.fl_column.proofs.bitmaps.words_of.Goals as goal

pub loop-k-preserved : goal.loop-k-preserved
loop-k-preserved c =
    let k = c.loop-k.k in
    let bitmap = c.args.bitmap.now in
    let small : (i : ℕ) → slice_index bitmap i < 256 = λ i. omega (arith, c.type_inv.bitmap i) in
    record {
      count = rw c.in_ok-push.ensures.items (omega (arith, length_push c.loop-k.words.items c.word.result));
      bits = λ i h. rw c.in_ok-push.ensures.items (words_more (λ i b. b ≡ bit_in bitmap i) c.loop-k.words.items c.word.result k (64 * k) 64 c.loop-k.invariant.count (omega arith) (omega arith) c.loop-k.invariant.bits
          (λ j below. word_in bitmap k c.word.result j small c.word.ensures below) i (omega arith));
    }
