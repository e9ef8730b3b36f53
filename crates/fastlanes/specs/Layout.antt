-- Where the items of a block of 1024 items stand, and where their bits stand in its packed words.
use Rattle.std.specs.Prelude.{◌≡◌, ℕ, suc, zero, ◌+◌, ◌*◌, ◌/◌, ◌%◌, ◌^◌, ◌<◌, List, [], ◌∷◌, slice_index, map, Bool, true, false, ◌-◌}
use Rattle.std.specs.Int.{bit_at}

-- the order of the groups of eight rows
abbrev pub order_of : ℕ → ℕ
order_of q = slice_index (0 ∷ 4 ∷ 2 ∷ 6 ∷ 1 ∷ 5 ∷ 3 ∷ 7 ∷ []) q

-- the position of the item at row r of lane l
unfoldable pub place : ℕ → ℕ → ℕ
place r l = l + 128 * (r % 8) + 16 * order_of (r / 8)

-- the row of position i, where a block has so many lanes
unfoldable pub row_of : ℕ → ℕ → ℕ
row_of lanes i = i / 128 + 8 * order_of (i % 128 / lanes * (lanes / 16))

-- the lane of position i, where a block has so many lanes
abbrev pub lane_of : ℕ → ℕ → ℕ
lane_of lanes i = i % lanes

-- the first position of the segment of lane l of a delta block
unfoldable pub segment : ℕ → ℕ
segment l = 64 * (l % 16) + 8 * order_of (l / 16)

-- the lane whose segment has position i of a delta block, where a word has T bits
unfoldable pub segment_lane : ℕ → ℕ → ℕ
segment_lane T i = i / 64 + 16 * order_of (i % 64 / T * (T / 8))

-- the place of position i in its segment of a delta block, where a word has T bits
abbrev pub segment_row : ℕ → ℕ → ℕ
segment_row T i = i % T

-- the number of a bit: 1 where it is set, else 0
abbrev pub bit_value : Bool → ℕ
bit_value true = 1
bit_value false = 0

-- the sum of 256 ^ i times byte i, over the first n bytes
abbrev pub le_sum : (ℕ → ℕ) → ℕ → ℕ
le_sum byte zero = 0
le_sum byte (suc n) = le_sum byte n + 256 ^ n * byte n

-- word m of these bytes, where a word has T bits
abbrev pub word_at : ℕ → List ℕ → ℕ → ℕ
word_at T bytes m = le_sum (λ i. slice_index bytes (m * (T / 8) + i)) (T / 8)

-- the pattern of element i of a list of words
unfoldable pub pattern_at : {W : Type 0} → (W → ℕ) → List W → ℕ → ℕ
pattern_at pattern xs i = slice_index (map pattern xs) i

-- the number that the first n of these bits make, the lowest first
unfoldable pub from_bits : (ℕ → ℕ) → ℕ → ℕ
from_bits bit zero = 0
from_bits bit (suc n) = from_bits bit n + bit n * 2 ^ n

-- bit s of the stream of lane l in these words
unfoldable pub packed_bit : ℕ → ℕ → (ℕ → ℕ) → ℕ → ℕ → ℕ
packed_bit T lanes word l s = bit_at (word (s / T * lanes + l)) (s % T)

-- these words are the packing of these items at this width: bit b of the item at row r of lane l, below the width, is bit r * width + b of the lane's stream
pub record Packed (T lanes width : ℕ) (item word : ℕ → ℕ) : Type 0 where
  pub bits : (r l b : ℕ) → r < T → l < lanes → b < width → bit_at (item (place r l)) b ≡ packed_bit T lanes word l (r * width + b)

-- bit s of the stream of lane l in the packing of these items
abbrev pub stream_bit : ℕ → (ℕ → ℕ) → ℕ → ℕ → ℕ
stream_bit width item l s = bit_at (item (place (s / width) l)) (s % width)

-- the number that the low n bits of word k of lane l make, in the packing of these items
unfoldable pub packed_bits : ℕ → ℕ → (ℕ → ℕ) → ℕ → ℕ → ℕ → ℕ
packed_bits T width item k l n = from_bits (λ t. stream_bit width item l (k * T + t)) n

-- the number that the low n bits of the item at row r of lane l make, in these packed words
unfoldable pub unpacked_bits : ℕ → ℕ → ℕ → (ℕ → ℕ) → ℕ → ℕ → ℕ → ℕ
unpacked_bits T lanes width word r l n = from_bits (λ b. packed_bit T lanes word l (r * width + b)) n

-- the item at position i of these packed words, its bits from the width on 0
unfoldable pub unpacked_item : ℕ → ℕ → ℕ → (ℕ → ℕ) → ℕ → ℕ
unpacked_item T lanes width word i = unpacked_bits T lanes width word (row_of lanes i) (lane_of lanes i) width

-- how many words hold the bits of the item at row r, at a width above 0
abbrev pub words_of_item : ℕ → ℕ → ℕ → ℕ
words_of_item T width r = (r * width + (width - 1)) / T - r * width / T + 1

-- the number of bits of a word and of lanes of a block
pub data IsWordWidth : ℕ → ℕ → Type 0 where
  bits_8 : IsWordWidth 8 128
  bits_16 : IsWordWidth 16 64
  bits_32 : IsWordWidth 32 32
  bits_64 : IsWordWidth 64 16
