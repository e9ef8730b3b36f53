-- Delta blocks: the transposition of the lanes' segments to rows, and the differences along rows.
use Rattle.std.specs.Prelude.{◌≡◌, ℕ, suc, zero, ◌+◌, ◌*◌, ◌/◌, ◌%◌, ◌^◌, ◌<◌, ◌-◌}
use Rattle.fastlanes.specs.Layout.{order_of, place, segment, segment_row, segment_lane}

-- the position of the item that the transposition stores at position i, the same for every word type
unfoldable pub moved_from : ℕ → ℕ
moved_from i = 64 * (i % 16) + 8 * order_of (i / 16 % 8) + i / 128

-- the position at which the transposition stores item i, the same for every word type
unfoldable pub moved_to : ℕ → ℕ
moved_to i = i / 64 + 16 * order_of (i / 8 % 8) + 128 * (i % 8)

-- where item i is once the eight rows of a lane from a row 8 * q on are next to each other, the same for every word type
unfoldable pub gathered_from : ℕ → ℕ
gathered_from i = 8 * (i / 64 + 16 * order_of (i / 8 % 8)) + i % 8

-- the item at place r of each lane's segment is stored at row r of the lane
pub record Transposed (T lanes : ℕ) (item stored : ℕ → ℕ) : Type 0 where
  pub moved : (r l : ℕ) → r < T → l < lanes → stored (place r l) ≡ item (segment l + r)

-- the sum of the deltas of lane l at the rows below n
unfoldable pub delta_sum : (ℕ → ℕ) → ℕ → ℕ → ℕ
delta_sum delta l zero = 0
delta_sum delta l (suc r) = delta_sum delta l r + delta (place r l)

-- the base of lane l and its deltas at the rows below r, modulo 2 ^ T
unfoldable pub summed_before : ℕ → (ℕ → ℕ) → (ℕ → ℕ) → ℕ → ℕ → ℕ
summed_before T base delta r l = (base l + delta_sum delta l r) % 2 ^ T

-- the item at row r of lane l: the base and the deltas of rows 0 to r, modulo 2 ^ T
unfoldable pub summed_item : ℕ → (ℕ → ℕ) → (ℕ → ℕ) → ℕ → ℕ → ℕ
summed_item T base delta r l = (base l + delta_sum delta l (r + 1)) % 2 ^ T

-- item i of the block of these bases and deltas: the sum at the row and the lane that position i has in the segments
unfoldable pub delta_item : ℕ → (ℕ → ℕ) → (ℕ → ℕ) → ℕ → ℕ
delta_item T base delta i = summed_item T base delta (segment_row T i) (segment_lane T i)

-- the position of item r of lane l's segment
abbrev pub item_place : ℕ → ℕ → ℕ
item_place r l = segment l + r

-- what stands before the item at row r of lane l: the base, or the row before
unfoldable pub item_before : (ℕ → ℕ) → (ℕ → ℕ) → ℕ → ℕ → ℕ
item_before base item zero l = base l
item_before base item (suc r) l = item (place r l)

-- the item at row r of lane l minus what stands before it, modulo 2 ^ T
unfoldable pub item_delta : ℕ → (ℕ → ℕ) → (ℕ → ℕ) → ℕ → ℕ → ℕ
item_delta T base item r l = (item (place r l) + (2 ^ T - item_before base item r l)) % 2 ^ T
