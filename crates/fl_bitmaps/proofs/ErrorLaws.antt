-- What is known of bitmaps that are not refused.
use Rattle.std.proofs.Common.{inl, inr, ◌≡◌, ◌≢◌, ℕ, ◌==◌, ◌&&◌, List, [], ◌∷◌, Bool, true, false, not, Option, Some, None, Result, Ok, length, cond, refl, ap, arith}
use Rattle.std.proofs.lemmas.Bool.{and_parts, cases_eq, eq-eqb, eqb-true, ne_eqb, or_cases}
use Rattle.fl_bitmaps.specs.declared.error.BitmapError.{BitmapError}
use Rattle.fl_bitmaps.specs.declared.error.BitmapError.TheVariants.{ValidityLength, WrongLength}
use Rattle.fl_bitmaps.specs.Errors.{is_validity_len, joined_error, unless}

none_of : {A : Type 0} (x y : Bool) (a b : A) → ◌≡◌ {A = Result A BitmapError} (unless (cond (not x) (Some WrongLength) (cond y (Some ValidityLength) None)) a) (Ok b) → (x ≡ true) × (y ≡ false)
none_of true true a b e = absurd (let wrong : ⊥ = cc in wrong)
none_of true false a b e = (refl, refl)
none_of false y a b e = absurd (let wrong : ⊥ = cc in wrong)

-- as many as the answers, or none
whole_or_none : (bytes bits : ℕ) → is_validity_len bytes bits ≡ true → bytes ≢ 0 → bytes ≡ bits
whole_or_none bytes bits e some = elim (or_cases (bytes == bits) (bytes == 0) e) [
  | inl same ↦ eqb-true bytes bits same
  | inr none ↦ absurd (some (eqb-true bytes 0 none))
]

-- the lengths of bitmaps that are joined
pub record Fit (bits validity other other_validity : ℕ) : Type 0 where
  pub others : other ≡ bits
  pub whole : validity ≢ 0 → validity ≡ bits
  pub other_whole : other_validity ≢ 0 → other_validity ≡ bits
  pub known : validity ≡ 0 → other_validity ≡ 0

pub fit : {A : Type 0} (bits validity other other_validity : ℕ) (a b : A) → ◌≡◌ {A = Result A BitmapError} (unless (joined_error bits validity other other_validity) a) (Ok b) → Fit bits validity other other_validity
fit bits validity other other_validity a b e =
    let parts = none_of (other == bits && is_validity_len validity bits && is_validity_len other_validity bits) (validity == 0 && not (other_validity == 0)) a b e in
    let both = and_parts (other == bits && is_validity_len validity bits) (is_validity_len other_validity bits) parts.0 in
    let first = and_parts (other == bits) (is_validity_len validity bits) both.0 in
    record {
      others = eqb-true other bits first.0;
      whole = whole_or_none validity bits first.1;
      other_whole = whole_or_none other_validity bits both.1;
      known = λ none. elim (cases_eq other_validity 0) [
        | inl same ↦ same
        | inr some ↦ let test : (validity == 0) ≡ true = eq-eqb validity 0 none in let other_test : (other_validity == 0) ≡ false = ne_eqb other_validity 0 some in
            absurd (both_ways (rw (test, other_test) at parts.1))
      ];
    }
  where
    both_ways : true ≡ false → ⊥
    both_ways h = cc

pub empty : {A : Type 0} (xs : List A) → length xs ≡ 0 → xs ≡ []
empty [] e = refl
empty (x ∷ xs) e = absurd (omega arith)

-- what is answered where nothing is refused
pub allowed : {A B : Type 0} (error : Option BitmapError) (a b : A) (x y : B) → ◌≡◌ {A = Result A BitmapError} (Ok b) (unless error a) → x ≡ y → ◌≡◌ {A = Result B BitmapError} (Ok x) (unless error y)
allowed None a b x y e same = ap Ok same
allowed (Some error) a b x y e same = absurd (let wrong : ⊥ = cc in wrong)
