-- Whole blocks of 1024 items, one after another, and their words.
use Rattle.std.specs.Prelude.{◌≡◌, ◌==◌, ◌*◌, ◌^◌, ◌+◌, ◌%◌, ◌<◌, ℕ, not, nat_le, Option, Some, None, List, [], length, slice_index_or, take, drop, Result, Ok, Err, ⊤, if◌then◌else◌}
use Rattle.fastlanes.specs.Layout.{Packed, pattern_at, place, unpacked_item}
use Rattle.fastlanes.specs.Delta.{Transposed, item_delta, summed_item}
use Rattle.fl_blocks.specs.declared.error.BlocksError.{BlocksError}
use Rattle.fl_blocks.specs.declared.error.BlocksError.TheVariants.{WidthTooLarge, WrongLength}

-- the patterns of the items of block k
abbrev pub items_of : {W : Type 0} → (W → ℕ) → List (List W) → ℕ → ℕ → ℕ
items_of pattern blocks k = pattern_at pattern (slice_index_or blocks k [])

-- the patterns of the words of block k, where each block has so many
abbrev pub words_of : {W : Type 0} → (W → ℕ) → ℕ → List W → ℕ → ℕ → ℕ
words_of pattern size words k = pattern_at pattern (take size (drop (k * size) words))

-- ---- what is refused
-- why so many words are not those of so many blocks that are packed at a width, if they are not
abbrev pub packed_error : ℕ → ℕ → ℕ → ℕ → ℕ → Option BlocksError
packed_error T lanes width blocks words =
    if not (nat_le width T) then Some WidthTooLarge
    else if words == blocks * (width * lanes) then None
    else Some WrongLength

-- why there is no room for a block each of so many, if there is none
abbrev pub moved_error : ℕ → ℕ → Option BlocksError
moved_error blocks room = if room == blocks then None else Some WrongLength

-- why there are no deltas or sums of so many blocks with so many bases, if there are none
abbrev pub delta_error : ℕ → ℕ → ℕ → ℕ → Option BlocksError
delta_error lanes blocks bases room = if not (bases == blocks * lanes) then Some WrongLength else moved_error blocks room

-- an error, or that there is none
abbrev pub unless : Option BlocksError → Result ⊤ BlocksError
unless None = Ok tt
unless (Some error) = Err error

-- ---- what is written
-- the words are the packing of each block at a width
abbrev pub ArePacked : {W : Type 0} → (W → ℕ) → ℕ → ℕ → ℕ → List (List W) → List W → Type 0
ArePacked pattern T lanes width blocks words =
    (k : ℕ) → k < length blocks → Packed T lanes width (items_of pattern blocks k) (words_of pattern (width * lanes) words k)

-- the items are those of the packed words of each block
abbrev pub AreUnpacked : {W : Type 0} → (W → ℕ) → ℕ → ℕ → ℕ → List W → List (List W) → Type 0
AreUnpacked pattern T lanes width words blocks =
    (k i : ℕ) → k < length blocks → i < 1024 → items_of pattern blocks k i ≡ unpacked_item T lanes width (words_of pattern (width * lanes) words k) i

-- the items are those of the packed words of each block plus a reference, modulo 2 ^ T
abbrev pub AreUnpackedFrom : {W : Type 0} → ℕ → (W → ℕ) → ℕ → ℕ → ℕ → List W → List (List W) → Type 0
AreUnpackedFrom reference pattern T lanes width words blocks =
    (k i : ℕ) → k < length blocks → i < 1024 → items_of pattern blocks k i ≡ (unpacked_item T lanes width (words_of pattern (width * lanes) words k) i + reference) % 2 ^ T

-- each block is stored with the lanes' segments moved to their rows
abbrev pub AreTransposed : {W : Type 0} → (W → ℕ) → ℕ → ℕ → List (List W) → List (List W) → Type 0
AreTransposed pattern T lanes blocks stored = (k : ℕ) → k < length blocks → Transposed T lanes (items_of pattern blocks k) (items_of pattern stored k)

-- the deltas of each block along its lanes, from the bases of the block on
abbrev pub AreDeltas : {W : Type 0} → (W → ℕ) → ℕ → ℕ → List W → List (List W) → List (List W) → Type 0
AreDeltas pattern T lanes bases blocks deltas =
    (k r l : ℕ) → k < length blocks → r < T → l < lanes → items_of pattern deltas k (place r l) ≡ item_delta T (words_of pattern lanes bases k) (items_of pattern blocks k) r l

-- the sums of each block's deltas along its lanes, from the bases of the block on
abbrev pub AreSums : {W : Type 0} → (W → ℕ) → ℕ → ℕ → List W → List (List W) → List (List W) → Type 0
AreSums pattern T lanes bases deltas blocks =
    (k r l : ℕ) → k < length deltas → r < T → l < lanes → items_of pattern blocks k (place r l) ≡ summed_item T (words_of pattern lanes bases k) (items_of pattern deltas k) r l
