-- Masks that tests under a mask answer, and how they are written.
use Rattle.std.proofs.Common.{◌≡◌, ℕ, ℤ, ◌<◌, List, Bool, true, false, length, replicate, Result, Ok, Err, IfOk, arith, ap, ◌∙◌, sym, subst, refl}
use Rattle.std.proofs.lemmas.Bool.{eq-eqb}
use Rattle.std.proofs.lemmas.List.{get_or-replicate, length-replicate}
use Rattle.std.proofs.lemmas.List.FromFn.{length-map-range_with_len}
use Rattle.fl_types.specs.declared.dtype.PType.{PType}
use Rattle.fl_types.specs.declared.error.FastLanesError.{FastLanesError}
use Rattle.fl_types.specs.declared.mask.Mask.{Mask}
use Rattle.fl_types.specs.Masks.{mask_bits, mask_len}
use Rattle.fl_types.specs.Refusals.{Answers}
use Rattle.fl_types.specs.Types.{has_ptype, is_integer}
use Rattle.fl_types.proofs.MaskLaws.{length-mask_bits}
use Rattle.fl_column.specs.Bitmaps.{bit_in, bits_in}
use Rattle.fl_column.specs.Columns.{Column}
use Rattle.fl_scan.specs.Selections.{passed_under, under_mask}
use Rattle.flcol_c.proofs.BitmapLaws.{bits_read}
use Rattle.flcol_c.proofs.ReadLaws.{integers_of_type}

-- the bits of a bitmap that all are the same
pub bits_alike : (bitmap : List ℕ) (n : ℕ) (on : Bool) → ((i : ℕ) → i < n → bit_in bitmap i ≡ on) → bits_in bitmap n ≡ replicate n on
bits_alike bitmap n on each =
    let long : length (replicate n on) ≡ n = length-replicate n on in
    subst (λ m. bits_in bitmap m ≡ replicate n on) long
    (bits_read bitmap (replicate n on) (λ i h.
    let within : i < n = omega (arith, long, h) in
    each i within ∙ sym (get_or-replicate n i on false within)))

same_bits : (a b : List Bool) → ◌≡◌ {A = Result (List Bool) FastLanesError} (Ok a) (Ok b) → a ≡ b
same_bits a b e = cc

-- what a test under a mask answers has a bit for each item
pub passed_long : (mask : Mask) (test : ℤ → Bool) (c : Column) (q : PType) (r : Result Mask FastLanesError) → has_ptype q c.dtype ≡ true → mask_len mask ≡ length c.items → Answers mask_bits r (under_mask mask c (passed_under mask test c)) → IfOk r (λ m. mask_len m ≡ length c.items)
passed_long mask test c q (Err e) typed long answers = tt
passed_long mask test c q (Ok m) typed long answers =
    let integers : is_integer c.dtype ≡ true = integers_of_type q c.dtype typed in
    let answer : ◌≡◌ {A = Result (List Bool) FastLanesError} (Ok (passed_under mask test c)) (Ok (mask_bits m)) = (rw (eq-eqb (mask_len mask) (length c.items) long, integers) refl) ∙ answers in
    sym (length-mask_bits m) ∙ (ap length (sym (same_bits (passed_under mask test c) (mask_bits m) answer)) ∙ length-map-range_with_len _ 0 (length c.items))
