-- Lines and the numbers that digits write.
use Rattle.std.proofs.Common.{◌≡◌, ◌≢◌, ℕ, eqb, ◌+◌, ◌-◌, ◌*◌, ◌<◌, ◌≤◌, List, [], ◌∷◌, length, get_or, take, drop, zero, suc, arith, refl, sym, ap, ◌∙◌, Bool, true, false, cond, None, Some, add-one, drop-cons}
use Rattle.std.specs.Prelude.{option_and_then, nat_lt, nat_le, ◌&&◌}
use Rattle.std.proofs.lemmas.Bool.{eq-eqb, eqb-false, ne_eqb, le-leb, lt-ltb}
use Rattle.std.proofs.lemmas.List.{drop_all}
use Rattle.std.proofs.lemmas.Bool.Decides.{nat_tests}
use Rattle.std.specs.Str.{all_ascii_digits}
use Rattle.std.specs.Char.{is_ascii_digit, digit_value}
use Rattle.std.specs.Str.Parse.{digits_value, digits_value_after}
use Rattle.flcol_engine.specs.Text.{lines_of, number_up_to}

-- the first line feed ends the first line
pub line_ends : (text : List ℕ) (i : ℕ) → i < length text → ((k : ℕ) → k < i → get_or text k 0 ≢ 10) → get_or text i 0 ≡ 10 → lines_of text ≡ take i text ∷ lines_of (drop (i + 1) text)
line_ends [] i h below at = absurd (omega arith)
line_ends (b ∷ bs) zero h below at = rw (eq-eqb b 10 at) refl
line_ends (b ∷ bs) (suc i) h below at =
    let ih : lines_of bs ≡ take i bs ∷ lines_of (drop (i + 1) bs) = line_ends bs i (omega arith) (λ k lt. below (suc k) (omega arith)) at in
    let here : b ≢ 10 = below 0 (omega arith) in
    rw (ne_eqb b 10 here, ih, add-one, add-one) refl

-- a text with no line feed is one line
pub one_line : (text : List ℕ) → 0 < length text → ((k : ℕ) → k < length text → get_or text k 0 ≢ 10) → lines_of text ≡ text ∷ []
one_line [] h below = absurd (omega arith)
one_line (b ∷ []) h below = let here : b ≢ 10 = below 0 (omega arith) in rw (ne_eqb b 10 here) refl
one_line (b ∷ c ∷ bs) h below =
    let ih : lines_of (c ∷ bs) ≡ (c ∷ bs) ∷ [] = one_line (c ∷ bs) (omega arith) (λ k lt. below (suc k) (omega arith)) in
    let here : b ≢ 10 = below 0 (omega arith) in
    rw (ne_eqb b 10 here, ih) refl

-- n, and the digits from an index on, are the digits' number
pub record IsReading (ds : List ℕ) (i n : ℕ) : Type 0 where
  pub value : digits_value_after 10 n (drop i ds) ≡ digits_value 10 ds
  pub digits : all_ascii_digits (drop i ds) ≡ all_ascii_digits ds

one_more : (ds : List ℕ) (i : ℕ) → i < length ds → drop i ds ≡ get_or ds i 0 ∷ drop (i + 1) ds
one_more ds i h = rw (add-one, drop-cons ds i 0) refl

pub digit_value_is : (c : ℕ) → 48 ≤ c → c ≤ 57 → digit_value c ≡ c - 48
digit_value_is c low high = grind (arith, nat_tests)

grows : (n : ℕ) (cs : List ℕ) → n ≤ digits_value_after 10 n cs
grows n [] = omega arith
grows n (c ∷ cs) = omega (arith, grows (n * 10 + digit_value c) cs)

above : (max : ℕ) (ds : List ℕ) → max < digits_value 10 ds → number_up_to max ds ≡ None
above max ds large = at_test (nat_lt 0 (length ds) && all_ascii_digits ds)
  where
    not_within : (m d : ℕ) → m < d → nat_le d m ≡ false
    not_within m d h = grind (arith, nat_tests)

    at_test : (p : Bool) → option_and_then (λ n. cond (nat_le n max) (Some n) None) (cond p (Some (digits_value 10 ds)) None) ≡ None
    at_test true = rw (not_within max (digits_value 10 ds) large) refl
    at_test false = refl

pub digit_range : (c : ℕ) → is_ascii_digit c ≡ true → (48 ≤ c) × (c ≤ 57)
digit_range c e = (grind (arith, nat_tests), grind (arith, nat_tests))

-- a number that is too large with the digits so far is too large with all
pub too_large : (max : ℕ) (ds : List ℕ) (i n : ℕ) → i < length ds → is_ascii_digit (get_or ds i 0) ≡ true → max < n * 10 + (get_or ds i 0 - 48) → IsReading ds i n → number_up_to max ds ≡ None
too_large max ds i n h digit large r =
    let range = digit_range (get_or ds i 0) digit in
    let here = get_or ds i 0 in
    let rest = drop (i + 1) ds in
    let is : digits_value 10 ds ≡ digits_value_after 10 (n * 10 + digit_value here) rest = sym r.value ∙ ap (digits_value_after 10 n) (one_more ds i h) in
    let value : digit_value here ≡ here - 48 = digit_value_is here range.0 range.1 in
    let least : n * 10 + digit_value here ≤ digits_value_after 10 (n * 10 + digit_value here) rest = grows (n * 10 + digit_value here) rest in
    above max ds (omega (arith, is, value, least))

-- a byte that is no digit
pub not_digit : (max : ℕ) (ds : List ℕ) (i n : ℕ) → i < length ds → is_ascii_digit (get_or ds i 0) ≡ false → IsReading ds i n → number_up_to max ds ≡ None
not_digit max ds i n h e r =
    let rest = all_ascii_digits (drop (i + 1) ds) in
    let none : all_ascii_digits ds ≡ false = sym r.digits ∙ (ap all_ascii_digits (one_more ds i h) ∙ ap (λ (b : Bool). b && rest) e) in
    at_tests (nat_lt 0 (length ds)) (all_ascii_digits ds) none
  where
    at_tests : (p q : Bool) → q ≡ false → option_and_then (λ n. cond (nat_le n max) (Some n) None) (cond (p && q) (Some (digits_value 10 ds)) None) ≡ None
    at_tests true q e = rw e refl
    at_tests false q e = refl

-- one more digit
pub next_digit : (ds : List ℕ) (i n d : ℕ) → i < length ds → is_ascii_digit (get_or ds i 0) ≡ true → d ≡ get_or ds i 0 - 48 → IsReading ds i n → IsReading ds (i + 1) (n * 10 + d)
next_digit ds i n d h digit e r =
    let here = get_or ds i 0 in
    let rest = drop (i + 1) ds in
    let range = digit_range here digit in
    let same : d ≡ digit_value here = e ∙ sym (digit_value_is here range.0 range.1) in
    let value : digits_value_after 10 (n * 10 + digit_value here) rest ≡ digits_value 10 ds = sym (ap (digits_value_after 10 n) (one_more ds i h)) ∙ r.value in
    let digits : (is_ascii_digit here && all_ascii_digits rest) ≡ all_ascii_digits ds = sym (ap all_ascii_digits (one_more ds i h)) ∙ r.digits in
    record {
      value = ap (λ (m : ℕ). digits_value_after 10 (n * 10 + m) rest) same ∙ value;
      digits = sym (ap (λ (b : Bool). b && all_ascii_digits rest) digit) ∙ digits;
    }

-- all digits are read
pub number_read : (max : ℕ) (ds : List ℕ) (i n : ℕ) → eqb (length ds) 0 ≡ false → length ds ≤ i → n ≤ max → IsReading ds i n → number_up_to max ds ≡ Some n
number_read max ds i n other end small r =
    let not_none = eqb-false (length ds) 0 other in
    let some : 0 < length ds = omega arith in
    let value : n ≡ digits_value 10 ds = sym (ap (digits_value_after 10 n) (drop_all i ds end)) ∙ r.value in
    let digits : true ≡ all_ascii_digits ds = sym (ap all_ascii_digits (drop_all i ds end)) ∙ r.digits in
    rw (lt-ltb 0 (length ds) some, ← digits, ← value, le-leb n max small) refl
