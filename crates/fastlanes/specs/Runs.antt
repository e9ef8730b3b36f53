-- Runs of equal items.
use Rattle.std.specs.Prelude.{ℕ, suc, zero, ◌+◌, not, nat_eq, Bool}
use Rattle.fastlanes.specs.Layout.{bit_value}

-- how many numbers below n pass a test
unfoldable pub counted : (ℕ → Bool) → ℕ → ℕ
counted test zero = 0
counted test (suc n) = counted test n + bit_value (test n)

-- the run of position q: the number of positions from 1 to q whose item differs from the one before
unfoldable pub changes : (ℕ → ℕ) → ℕ → ℕ
changes item q = counted (λ t. not (nat_eq (item (suc t)) (item t))) q
