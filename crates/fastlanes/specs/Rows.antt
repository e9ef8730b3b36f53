-- What kernels write row by row, a group of sixteen lanes at a time.
use Rattle.std.specs.Prelude.{◌≡◌, ◌⊎◌, ℕ, ◌+◌, ◌*◌, ◌/◌, ◌%◌, ◌^◌, ◌<◌, ◌≤◌, Bool, false}
use Rattle.fastlanes.specs.Layout.{packed_bits, unpacked_bits}

-- at the lanes of group g, the rows from `from` on and below `to` have their values; all else is as it was
pub record WritesRows (rows lanes : ℕ) (at value : ℕ → ℕ → ℕ) (g from to : ℕ) (old new : ℕ → ℕ) : Type 0 where
  pub done : (s j : ℕ) → from ≤ s → s < to → j < 16 → new (at s (16 * g + j)) ≡ value s (16 * g + j)
  pub others : (s m : ℕ) → s < rows → m < lanes → (s < from) ⊎ (to ≤ s) ⊎ (m < 16 * g) ⊎ (16 * g + 16 ≤ m) → new (at s m) ≡ old (at s m)

-- the item at row r of lane l of these packed words
unfoldable pub item_of_row : ℕ → ℕ → ℕ → (ℕ → ℕ) → ℕ → ℕ → ℕ
item_of_row T lanes width word r l = unpacked_bits T lanes width word r l width

-- word k of lane l of the packing of these items
unfoldable pub packed_word : ℕ → ℕ → (ℕ → ℕ) → ℕ → ℕ → ℕ
packed_word T width item k l = packed_bits T width item k l T

-- the index of word k of lane l among the words of a block
unfoldable pub word_index : ℕ → ℕ → ℕ → ℕ
word_index lanes k l = k * lanes + l

-- the bits below bit s of lane l's stream, of the word that bit s is in
unfoldable pub begun_word : ℕ → ℕ → (ℕ → ℕ) → ℕ → ℕ → ℕ
begun_word T width item s l = packed_bits T width item (s / T) l (s % T)

-- the item at row r of lane l of these packed words plus the reference in its lane of a vector, modulo 2 ^ T
unfoldable pub item_with_reference : ℕ → ℕ → ℕ → (ℕ → ℕ) → (ℕ → ℕ) → ℕ → ℕ → ℕ
item_with_reference T lanes width word reference r l = (item_of_row T lanes width word r l + reference (l % 16)) % 2 ^ T

-- so many words are a packed block of this width, and group g is one of its groups of sixteen lanes
pub record IsGroup (T lanes width count g : ℕ) : Type 0 where
  pub fits : width ≤ T
  pub block : count ≡ width * lanes
  pub inside : 16 * g + 16 ≤ lanes

-- a reference that is not added is 0 in each lane
pub record IsReference (adds : Bool) (lane : ℕ → ℕ) : Type 0 where
  pub plain : adds ≡ false → (j : ℕ) → j < 16 → lane j ≡ 0
