-- The first of a range that passes a test.
use Rattle.std.proofs.Common.{◌≡◌, ℕ, zero, suc, ◌+◌, ◌<◌, ◌≤◌, Bool, true, false, Some, None, refl, inl, inr, arith}
use Rattle.std.proofs.lemmas.Bool.{cases_lt}
use Rattle.std.specs.List.{find, range_with_len}

pub find_first : (p : ℕ → Bool) (a n k : ℕ) → a ≤ k → k < a + n → p k ≡ true → ((j : ℕ) → a ≤ j → j < k → p j ≡ false) → find p (range_with_len a n) ≡ Some k
find_first p a zero k low high here before = absurd (omega arith)
find_first p a (suc n) k low high here before = elim (cases_lt a k) [
  | inl below ↦ (let first = before a (omega arith) below in rw first (find_first p (a + 1) n k (omega arith) (omega arith) here (λ j h l. before j (omega arith) l)))
  | inr above ↦ (let same : a ≡ k = omega arith in rw (same, here) refl)
]

pub find_none : (p : ℕ → Bool) (a n : ℕ) → ((j : ℕ) → a ≤ j → j < a + n → p j ≡ false) → find p (range_with_len a n) ≡ None
find_none p a zero nowhere = refl
find_none p a (suc n) nowhere = let first = nowhere a (omega arith) (omega arith) in rw first (find_none p (a + 1) n (λ j h l. nowhere j (omega arith) (omega arith)))
