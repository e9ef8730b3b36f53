-- The runs of a list of items.
use Rattle.std.proofs.Common.{◌≡◌, ◌≢◌, ℕ, zero, suc, ◌+◌, ◌<◌, ◌≤◌, ◌∙◌, ap, sym, arith, inl, inr, refl, Bool, true, false, add-one}
use Rattle.std.specs.Prelude.{not, nat_eq}
use Rattle.std.proofs.lemmas.Bool.{cases_eq, eqb-true}
use Rattle.fastlanes.specs.Layout.{bit_value}
use Rattle.fastlanes.specs.Runs.{changes, counted}

pub changes_none : (item : ℕ → ℕ) → changes item 0 ≡ 0
unfolding changes counted
changes_none item = refl

pub changes_more : (item : ℕ → ℕ) (q : ℕ) → changes item (q + 1) ≡ changes item q + bit_value (not (nat_eq (item (q + 1)) (item q)))
unfolding changes counted
changes_more item q = rw add-one refl

pub value_step : (b : Bool) → bit_value (not b) ≤ 1
value_step true = omega arith
value_step false = omega arith

value_none : (b : Bool) → bit_value (not b) ≡ 0 → b ≡ true
value_none true e = refl
value_none false e = absurd (omega arith)

pub changes_step : (item : ℕ → ℕ) (q : ℕ) → changes item (q + 1) ≤ changes item q + 1
changes_step item q = let more = changes_more item q in let one = value_step (nat_eq (item (q + 1)) (item q)) in omega arith

pub changes_below : (item : ℕ → ℕ) (q : ℕ) → changes item q ≤ q
changes_below item zero = let none = changes_none item in omega arith
changes_below item (suc q) = let before = changes_below item q in let step = changes_step item q in rw (sym (add-one q)) (omega arith)

pub changes_ordered : (item : ℕ → ℕ) (q p : ℕ) → q ≤ p → changes item q ≤ changes item p
changes_ordered item q zero h = let e : q ≡ 0 = omega arith in rw e (let same : changes item 0 ≤ changes item 0 = omega arith in same)
changes_ordered item q (suc p) h =
    elim (cases_eq q (suc p)) [
      | inl same ↦ rw same (let kept : changes item (suc p) ≤ changes item (suc p) = omega arith in kept)
      | inr other ↦
          let before = changes_ordered item q p (omega arith) in
          let more = changes_more item p in
          rw (sym (add-one p)) (omega arith)
    ]

same_item : (item : ℕ → ℕ) (q : ℕ) → changes item (q + 1) ≡ changes item q → item (q + 1) ≡ item q
same_item item q e =
    let more = changes_more item q in
    let none : bit_value (not (nat_eq (item (q + 1)) (item q))) ≡ 0 = omega arith in
    eqb-true _ _ (value_none _ none)

-- the items of a run are equal
pub same_run : (item : ℕ → ℕ) (q p : ℕ) → q ≤ p → changes item q ≡ changes item p → item q ≡ item p
same_run item q zero h e = let z : q ≡ 0 = omega arith in ap item z
same_run item q (suc p) h e =
    elim (cases_eq q (suc p)) [
      | inl same ↦ ap item same
      | inr other ↦
          let le : q ≤ p = omega arith in
          let low = changes_ordered item q p le in
          let more = changes_more item p in
          let e' : changes item q ≡ changes item (p + 1) = rw (sym (add-one p)) at e in
          let mid : changes item q ≡ changes item p = omega arith in
          let next : changes item (p + 1) ≡ changes item p = omega arith in
          rw (sym (add-one p)) (same_run item q p le mid ∙ sym (same_item item p next))
    ]

-- one more value
pub value_written : (item old new : ℕ → ℕ) (k last : ℕ) → last ≡ changes item (k + 1) → new last ≡ item (k + 1)
    → ((v : ℕ) → v ≢ last → new v ≡ old v)
    → ((q : ℕ) → q < k + 1 → old (changes item q) ≡ item q)
    → (q : ℕ) → q < k + 1 + 1 → new (changes item q) ≡ item q
value_written item old new k last at here apart done q h =
    elim (cases_eq (changes item q) last) [
      | inl same ↦
          let le : q ≤ k + 1 = omega arith in
          ap new same ∙ (here ∙ sym (same_run item q (k + 1) le (same ∙ at)))
      | inr other ↦
          let before : q ≢ k + 1 = λ e. other (ap (changes item) e ∙ sym at) in
          apart (changes item q) other ∙ done q (omega arith)
    ]

-- the value that an index names is the item of its position
pub decoded_run : (item value index decoded : ℕ → ℕ) → ((q : ℕ) → q < 1024 → value (changes item q) ≡ item q) → ((q : ℕ) → q < 1024 → index q ≡ changes item q)
    → ((q : ℕ) → q < 1024 → decoded q ≡ value (index q)) → (q : ℕ) → q < 1024 → decoded q ≡ item q
decoded_run item value index decoded values indices read q h = read q h ∙ (ap value (indices q h) ∙ values q h)
