-- Where the place that rising indices are below a number up to is narrowed down, and a few indices are counted.
use Rattle.std.proofs.Common.{◌≡◌, ℕ, ℤ, true, false, List, ◌+◌, ◌<◌, ◌≤◌, length, get_or, nat_lt, unsigned_abs, ap, sym, ◌∙◌, arith, inl, inr}
use Rattle.std.specs.Prelude.{take}
use Rattle.std.proofs.lemmas.Bool.{cases_lt, ltb-false, ltb-true}
use Rattle.std.proofs.lemmas.List.Sums.{count_by_more_no, count_by_more_yes}
use Rattle.fl_column.specs.Numbers.{numbers_by}
use Rattle.fl_patches.specs.PatchMaps.{count_below, is_rising}
use Rattle.fl_patches.proofs.Rising.{count_ge, count_lt, get_or-numbers_by, length-numbers_by}

-- the number that is read at a place
pub number_read : {X : Type 0} (f : X → ℤ) (xs : List X) (i : ℕ) (x : X) → i < length xs → x ≡ get_or xs i x → get_or (numbers_by f xs) i 0 ≡ unsigned_abs (f x)
number_read f xs i x h is = get_or-numbers_by f xs i x h ∙ ap (λ y. unsigned_abs (f y)) (sym is)

-- the place lies behind an index that is below the number
pub place_behind : {X : Type 0} (f : X → ℤ) (xs : List X) (limit i : ℕ) (x : X) → is_rising (numbers_by f xs) ≡ true → i < length xs → x ≡ get_or xs i x → nat_lt (unsigned_abs (f x)) limit ≡ true → i + 1 ≤ count_below limit (numbers_by f xs)
place_behind f xs limit i x rise h is below =
    let ns = numbers_by f xs in
    let len = length-numbers_by f xs in
    let at = number_read f xs i x h is in
    let less = ltb-true (unsigned_abs (f x)) limit below in
    elim (cases_lt i (count_below limit ns)) [
      | inl right ↦ omega arith
      | inr wrong ↦ (let above = count_ge ns limit i rise (omega arith) (omega arith) in absurd (omega arith))
    ]

-- the place lies before an index that is not
pub place_before : {X : Type 0} (f : X → ℤ) (xs : List X) (limit i : ℕ) (x : X) → is_rising (numbers_by f xs) ≡ true → i < length xs → x ≡ get_or xs i x → nat_lt (unsigned_abs (f x)) limit ≡ false → count_below limit (numbers_by f xs) ≤ i
place_before f xs limit i x rise h is above =
    let ns = numbers_by f xs in
    let at = number_read f xs i x h is in
    let more = ltb-false (unsigned_abs (f x)) limit above in
    elim (cases_lt i (count_below limit ns)) [
      | inl wrong ↦ (let below = count_lt ns limit i rise wrong in absurd (omega arith))
      | inr right ↦ omega arith
    ]

-- an index that is below the number is counted, and any other is not
pub one_more : {X : Type 0} (f : X → ℤ) (xs : List X) (limit i : ℕ) (x : X) → i < length xs → x ≡ get_or xs i x → nat_lt (unsigned_abs (f x)) limit ≡ true → count_below limit (take (i + 1) (numbers_by f xs)) ≡ count_below limit (take i (numbers_by f xs)) + 1
one_more f xs limit i x h is below =
    let len = length-numbers_by f xs in
    count_by_more_yes (λ index. nat_lt index limit) (numbers_by f xs) i 0 (omega arith) (rw (number_read f xs i x h is) below)

pub no_more : {X : Type 0} (f : X → ℤ) (xs : List X) (limit i : ℕ) (x : X) → i < length xs → x ≡ get_or xs i x → nat_lt (unsigned_abs (f x)) limit ≡ false → count_below limit (take (i + 1) (numbers_by f xs)) ≡ count_below limit (take i (numbers_by f xs))
no_more f xs limit i x h is above =
    let len = length-numbers_by f xs in
    count_by_more_no (λ index. nat_lt index limit) (numbers_by f xs) i 0 (omega arith) (rw (number_read f xs i x h is) above)
