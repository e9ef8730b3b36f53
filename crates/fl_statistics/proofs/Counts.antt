-- Histograms of items that are counted in parts.
use Rattle.std.proofs.Common.{◌≡◌, ℕ, ℤ, ◌+◌, ◌-◌, ◌<◌, ◌≤◌, List, ◌++◌, length, take, drop, get_or, Option, le_trans, refl, ap, sym, ◌∙◌, arith}
use Rattle.std.proofs.lemmas.List.{length-drop, length-take}
use Rattle.std.proofs.lemmas.List.FromFn.{fill_by_all}
use Rattle.fl_types.specs.declared.dtype.PType.{PType}
use Rattle.fl_types.specs.Bits.{between}
use Rattle.fl_types.specs.Integers.{bits_of_type}
use Rattle.fl_patches.specs.Costs.{count_above}
use Rattle.fl_patches.specs.Exceptions.{count_with_bits, histogram_of}
use Rattle.fl_patches.proofs.Blocks.{take_between}
use Rattle.fl_patches.proofs.Counted.{few_above}
use Rattle.fl_patches.proofs.Histograms.{count_append, entry_at, entry_few, length-histogram, length_between_few}

-- the histogram of items and further ones is the sum of theirs
pub histogram_joined : (t : PType) (xs ys : List (Option ℤ)) (first other sums : List ℕ) → first ≡ histogram_of t xs → other ≡ histogram_of t ys → length sums ≡ length first
    → ((k : ℕ) → k < length first → get_or sums k 0 ≡ get_or first k 0 + get_or other k 0) → sums ≡ histogram_of t (xs ++ ys)
histogram_joined t xs ys first other sums is are even each =
    let long : length first ≡ bits_of_type t + 1 = ap length is ∙ length-histogram t xs in
    fill_by_all (count_with_bits t (xs ++ ys)) sums (bits_of_type t + 1) 0 (even ∙ long) (λ b h.
    let here : get_or first b 0 ≡ count_with_bits t xs b = ap (λ es. get_or es b 0) is ∙ entry_at t xs b h in
    let there : get_or other b 0 ≡ count_with_bits t ys b = ap (λ es. get_or es b 0) are ∙ entry_at t ys b h in
    let both = count_append t xs ys b in
    let sum = each b (omega arith) in
    omega arith)

pub first_part : {A : Type 0} (xs : List A) (end : ℕ) → between 0 end xs ≡ take end xs
first_part xs end = let all : end - 0 ≡ end = omega arith in rw all refl

-- the same of the items before a place, and of those from there
pub parts_joined : (t : PType) (xs : List (Option ℤ)) (start end : ℕ) (first other sums : List ℕ) → start ≤ end → first ≡ histogram_of t (between 0 start xs) → other ≡ histogram_of t (between start end xs) → length sums ≡ length first
    → ((k : ℕ) → k < length first → get_or sums k 0 ≡ get_or first k 0 + get_or other k 0) → sums ≡ histogram_of t (between 0 end xs)
parts_joined t xs start end first other sums order is are even each =
    histogram_joined t (take start xs) (between start end xs) first other sums (is ∙ ap (histogram_of t) (first_part xs start)) are even each
    ∙ ap (histogram_of t) (sym (take_between xs start end order) ∙ sym (first_part xs end))

-- entries of few items are small
pub few_of_part : (t : PType) (xs : List (Option ℤ)) (start end : ℕ) (entries : List ℕ) (k : ℕ) → entries ≡ histogram_of t (between start end xs) → get_or entries k 0 ≤ end - start
few_of_part t xs start end entries k is = le_trans (entry_few t (between start end xs) entries k is) (length_between_few xs start end)

-- no more of the first items have more bits than there are items
pub above_part : (t : PType) (width : ℕ) (items : List (Option ℤ)) (end : ℕ) (entries : List ℕ) → entries ≡ histogram_of t (between 0 end items) → count_above width entries ≤ length items
above_part t width items end entries is =
    rw is (omega (arith, few_above t width (between 0 end items), length-take (end - 0) (drop 0 items), length-drop 0 items))
