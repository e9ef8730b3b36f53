use Rattle.std.proofs.Common.{inl, inr, ◌≡◌, ◌*◌, ◌+◌, ◌/◌, ◌%◌, length, length-set, false, refl, ap, sym, ◌∙◌, arith}
use Rattle.std.specs.Prelude.{slice_index_or}
use Rattle.std.proofs.lemmas.Bool.{cases_lt}
use Rattle.std.proofs.lemmas.List.{get_or_past}
use Rattle.fl_column.specs.Bitmaps.{bit_in}
use Rattle.fl_column.proofs.BitmapLaws.{byte_more, no_bit_behind, word_in}
use Rattle.fl_column.proofs.bitmaps.write_bits.Goals as goal

pub loop-at-init : goal.loop-at-init
loop-at-init c =
    let bitmap = c.loop-k.bitmap in
    let end = c.loop-k-test.false in
    record {
      long = refl;
      bits = λ i h.
          let place : 64 * (i / 64) + i % 64 ≡ i = omega arith in
          ap (bit_in bitmap) (sym place) ∙ sym (word_in bitmap (i / 64) _ (i % 64) c.loop-k.invariant.bytes refl (omega arith)) ∙ c.loop-k.invariant.words (i / 64) (omega arith) (i % 64) (omega arith) ∙ ap (λ m. slice_index_or c.args.bits.now m false) place;
    }

pub loop-at-preserved : goal.loop-at-preserved
loop-at-preserved c =
    let at = c.loop-at.at in
    let whole = c.len-whole.result / 64 in
    let bitmap = c.loop-at.bitmap in
    let long = c.loop-at.invariant.long in
    let more = c.loop-at-test.true in
    let bytes = c.requires in
    let count = c.len-whole.ensures in
    let kept = c.loop-k.invariant.long in
    let begun = c.loop-at.auto.at in
    record {
      long = length-set bitmap at _ ∙ long;
      bits = byte_more bitmap c.args.bits.now c.word-in-loop-at.result whole at (omega arith) (omega arith) (omega arith) c.word-in-loop-at.ensures c.loop-at.invariant.bits;
    }

pub returns : goal.returns
returns c i =
    let bitmap = c.loop-at.bitmap in
    let long = c.loop-at.invariant.long in
    let kept = c.loop-k.invariant.long in
    let end = c.loop-at-test.false in
    let bytes = c.requires in
    elim (cases_lt i (8 * length bitmap)) [
      | inl low ↦ c.loop-at.invariant.bits i (omega arith)
      | inr high ↦ no_bit_behind bitmap i high ∙ sym (get_or_past c.args.bits.now i false (omega arith))
    ]
