-- Answers of comparisons, as bits.
use Rattle.std.specs.Prelude.{◌≡◌, ℕ, ◌+◌, ◌*◌, ◌/◌, ◌%◌, ◌^◌, ◌<◌, List, slice_index, Bool, nat_eq}
use Rattle.std.specs.Int.{bit_at}
use Rattle.fastlanes.specs.Delta.{summed_before, summed_item}

-- whether bit i of a number is set
unfoldable pub is_bit_set : ℕ → ℕ → Bool
is_bit_set n i = nat_eq (bit_at n i) 1

-- whether bit i of these words of 64 bits is set
unfoldable pub has_bit : List ℕ → ℕ → Bool
has_bit words i = is_bit_set (slice_index words (i / 64)) (i % 64)

-- the closure may answer so for the word of this pattern and rhs
unfoldable pub IsAnswer : {W : Type 0} → (W → ℕ) → (W → W → Bool → Type 0) → W → ℕ → Bool → Type 0
IsAnswer {W} pattern post rhs item answer = (x : W) → pattern x ≡ item → post x rhs answer

-- bit s of word j is the closure's answer for the item at row s of lane j of group g, for each row below n, and no bit from n on is set
pub record Compares {W : Type 0} (pattern : W → ℕ) (post : W → W → Bool → Type 0) (rhs : W) (item : ℕ → ℕ → ℕ) (g n : ℕ) (lane : ℕ → ℕ) : Type 0 where
  pub small : (j : ℕ) → j < 16 → lane j < 2 ^ n
  pub each : (s j : ℕ) → s < n → j < 16 → IsAnswer pattern post rhs (item s (16 * g + j)) (is_bit_set (lane j) s)

-- the sums of the lanes of group g below row r, and the answers for the sums at these rows
pub record Scans {W : Type 0} (T : ℕ) (pattern : W → ℕ) (post : W → W → Bool → Type 0) (rhs : W) (base delta : ℕ → ℕ) (g r : ℕ) (sum answer : ℕ → ℕ) : Type 0 where
  pub sums : (j : ℕ) → j < 16 → sum j ≡ summed_before T base delta r (16 * g + j)
  pub answers : Compares pattern post rhs (summed_item T base delta) g r answer
