-- Values that are put in places of a column.
use Rattle.std.specs.Prelude.{◌≡◌, ◌+◌, ◌<◌, ◌≤◌, ℕ, ℤ, pos, true, List, Option, length, map, option_map, slice_index, slice_index_or}
use Rattle.fl_column.specs.Numbers.{numbers_by}
use Rattle.fl_patches.specs.PatchMaps.{is_rising, rank_of}
use Rattle.fl_bitpacking.specs.declared.patching.PlacedValues.{PlacedValues}

-- indices rise, each is that of one of this many places from the offset on, and beside each stands a value
pub record ArePlaced (indices : List ℕ) (values offset len : ℕ) : Type 0 where
  pub even : values ≡ length indices
  pub rising : is_rising indices ≡ true
  pub within : (k : ℕ) → k < length indices → (offset ≤ slice_index indices k) × (slice_index indices k < offset + len)

-- the value beside an index, if it is one of these
abbrev pub value_beside : List ℕ → List ℤ → ℕ → Option ℤ
value_beside indices values index = option_map (λ rank. slice_index_or values rank (pos 0)) (rank_of index indices)

-- the indices are those of this many places, by what each index stands for
abbrev pub ArePlacedIn : {T I : Type 0} → (I → ℤ) → ℕ → PlacedValues T I → Type 0
ArePlacedIn index len p = ArePlaced (numbers_by index p.indices.now) (length p.values.now) p.offset len

-- the value at place i, if there is one
abbrev pub value_placed : {T I : Type 0} → (I → ℤ) → (T → ℤ) → PlacedValues T I → ℕ → Option ℤ
value_placed index value p i = value_beside (numbers_by index p.indices.now) (map value p.values.now) (p.offset + i)
