-- Where a value stands in a sorted column.
use Rattle.std.specs.Prelude.{◌+◌, ◌-◌, ◌*◌, ◌≤◌, ℕ, ℤ, Bool, List, None, Some, length, min, slice_index_or}
use Rattle.std.specs.List.{prefix_len}
use Rattle.fl_types.specs.declared.validity.Validity.{Validity}
use Rattle.fl_column.specs.Columns.{Column}
use Rattle.fl_column.specs.Queries.{is_below}
use Rattle.fl_bitpacking.specs.Blocks.{value_at}
use Rattle.fl_array.specs.Readers.{AreItemsFrom, Prepared}
use Rattle.fl_array.specs.Reads.{IsValidityOf}

-- the first position whose item is not below an integer, or the number of items; a null is below every integer
abbrev pub lower_bound_of : ℤ → Column → ℕ
lower_bound_of z c = prefix_len (λ item. is_below item (Some z)) c.items

-- the item at a position is below an integer
abbrev pub is_below_at : ℤ → Column → ℕ → Bool
is_below_at z c i = is_below (slice_index_or c.items i None) (Some z)

-- the position of the first item of block j
abbrev pub block_start : Prepared → ℕ → ℕ
block_start p j = 1024 * j - p.offset

-- the position behind the last item of block j
abbrev pub block_end : Prepared → ℕ → ℕ
block_end p j = min (1024 * (j + 1) - p.offset) (length p.column.items)

-- which items of a column are null, and the values that were read from a position on
pub record AreRead {T : Type 0} (value : T → ℤ) (validity : Validity) (start : ℕ) (items : List T) (c : Column) : Type 0 where
  pub validity_of : IsValidityOf validity c
  pub range : start + length items ≤ length c.items
  pub shown : AreItemsFrom start (length items) (value_at value items) c
