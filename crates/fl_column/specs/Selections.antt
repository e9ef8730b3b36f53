-- Items at positions.
use Rattle.std.specs.Prelude.{ℕ, Bool, true, false, List, Option, None, Some, length, map, pos, slice_index_or, nat_lt, option_and_then, option_map, unsigned_abs, ℤ, Result, Ok, Err, if◌then◌else◌}
use Rattle.std.specs.List.{list_all}
use Rattle.fl_column.specs.Columns.{option_all}
use Rattle.fl_types.specs.Bits.{true_count}
use Rattle.fl_types.specs.declared.validity.Validity.{Validity}
use Rattle.fl_types.specs.declared.validity.Validity.TheVariants as valid
use Rattle.fl_column.specs.Operations.{is_in_range, kept}
use Rattle.fl_types.specs.declared.error.FastLanesError.{FastLanesError}
use Rattle.fl_types.specs.declared.error.FastLanesError.TheVariants.{IndexOutOfBounds}

-- the item at a position, null where there is none
abbrev pub item_at_position : {A : Type 0} → List (Option A) → Option ℕ → Option A
item_at_position items position = option_and_then (λ i. slice_index_or items i None) position

-- the items at these positions
abbrev pub items_at : {A : Type 0} → List (Option A) → List (Option ℕ) → List (Option A)
items_at items positions = map (item_at_position items) positions

-- the position is below the length, if there is one
abbrev pub is_below_length : ℕ → Option ℕ → Bool
is_below_length len position = option_all (λ i. nat_lt i len) position

-- every position is
abbrev pub are_below_length : ℕ → List (Option ℕ) → Bool
are_below_length len positions = list_all (is_below_length len) positions

-- the positions that indices name, or why there are none
abbrev pub positions_in : ℕ → List (Option ℤ) → Result (List (Option ℕ)) FastLanesError
positions_in len indices = if list_all (is_in_range len) indices then Ok (map (option_map unsigned_abs) indices) else Err IndexOutOfBounds

-- one of this many items is null
abbrev pub any_null : Validity → ℕ → Bool
any_null valid.NonNullable len = false
any_null valid.AllValid len = false
any_null valid.AllInvalid len = nat_lt 0 len
any_null (valid.Array bits) len = nat_lt (true_count bits) len

-- all items are valid by the form of their validity
abbrev pub is_full : Validity → Bool
is_full valid.NonNullable = true
is_full valid.AllValid = true
is_full valid.AllInvalid = false
is_full (valid.Array bits) = false

-- the slot that an index names
abbrev pub slot_named : List ℤ → ℤ → ℤ
slot_named slots index = slice_index_or slots (unsigned_abs index) (pos 0)

-- the slots that indices name, or why there are none
abbrev pub slots_named : List ℤ → List ℤ → Result (List ℤ) FastLanesError
slots_named slots indices = if list_all (λ index. is_in_range (length slots) (Some index)) indices then Ok (map (slot_named slots) indices) else Err IndexOutOfBounds

-- the bit that an index names
abbrev pub bit_named : List Bool → ℤ → Bool
bit_named bits index = slice_index_or bits (unsigned_abs index) false

-- the validity of items with these bits, without them where no item is null
abbrev pub validity_of_bits : List Bool → Validity
validity_of_bits bits = if any_null (valid.Array bits) (length bits) then valid.Array bits else valid.AllValid

-- the validity of the items that a mask keeps
abbrev pub kept_validity : List Bool → Validity → Validity
kept_validity bits valid.NonNullable = valid.NonNullable
kept_validity bits valid.AllValid = valid.AllValid
kept_validity bits valid.AllInvalid = valid.AllInvalid
kept_validity bits (valid.Array valid_bits) = validity_of_bits (kept bits valid_bits)
