use Rattle.std.proofs.Common.{◌-◌, ◌%◌, ◌++◌, ◌∷◌, [], ap, sym, ◌∙◌, arith}
use Rattle.std.proofs.lemmas.List.FromFn.{map-range_with_len_more}
use Rattle.fl_column.specs.Bitmaps.{bit_in, bits_in}
use Rattle.fl_column.proofs.BitmapLaws.{bits_of_words}
use Rattle.fl_column.proofs.bitmaps.bits_of.Goals as goal

pub loop-i-init : goal.loop-i-init
loop-i-init c = c.from_words-bits.ensures ∙ bits_of_words c.in_ok-words.words.items c.args.bitmap.now (c.args.len - c.args.len % 64) (λ i h. c.in_ok-words.ensures.bits i (omega arith))

pub loop-i-preserved : goal.loop-i-preserved
loop-i-preserved c =
    let bitmap = c.args.bitmap.now in
    let i = c.loop-i.i in
    c.in_ok-push.ensures.ok ∙ ap (λ xs. xs ++ c.bit_at.result ∷ []) c.loop-i.invariant ∙ ap (λ b. bits_in bitmap i ++ b ∷ []) c.bit_at.ensures ∙ sym (map-range_with_len_more (bit_in bitmap) 0 i i (omega arith))
