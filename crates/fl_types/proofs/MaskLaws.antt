-- Masks and what they keep.
use Rattle.std.proofs.Common.{◌≡◌, ℕ, zero, suc, true, false, length, replicate, refl, ◌∙◌, arith, cond}
use Rattle.std.proofs.lemmas.List.{length-replicate}
use Rattle.std.proofs.lemmas.List.Sums.{sum_by-cons}
use Rattle.fl_types.specs.Bits.{true_count}
use Rattle.fl_types.specs.Masks.{mask_bits, mask_len}
use Rattle.fl_types.specs.declared.mask.Mask.{Mask}
use Rattle.fl_types.specs.declared.mask.Mask.TheVariants.{AllTrue, AllFalse, Values}

pub all_count : (n : ℕ) → true_count (replicate n true) ≡ n
all_count zero = refl
all_count (suc n) = sum_by-cons (λ bit. cond bit 1 0) true (replicate n true) ∙ (let e = all_count n in omega arith)

pub none_count : (n : ℕ) → true_count (replicate n false) ≡ 0
none_count zero = refl
none_count (suc n) = sum_by-cons (λ bit. cond bit 1 0) false (replicate n false) ∙ (let e = none_count n in omega arith)

pub ruleset mask_counts = (all_count, none_count)

pub length-mask_bits : (mask : Mask) → length (mask_bits mask) ≡ mask_len mask
length-mask_bits (AllTrue n) = length-replicate n true
length-mask_bits (AllFalse n) = length-replicate n false
length-mask_bits (Values bits) = refl
