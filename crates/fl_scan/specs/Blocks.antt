-- What is gathered of a column block by block.
use Rattle.std.specs.Prelude.{◌≡◌, ◌+◌, ◌-◌, ◌*◌, ◌<◌, ℕ, ℤ, List, IsTrue, None, true, Some, filter_map, is_some, length, map, min, slice_index_or}
use Rattle.fl_types.specs.declared.validity.Validity.{Validity}
use Rattle.fl_types.specs.Bits.{between}
use Rattle.fl_types.specs.Validities.{covers, is_valid_at, items_of}
use Rattle.fl_column.specs.Columns.{Column, integers_in}
use Rattle.fl_array.specs.Readers.{Prepared}

-- The validity marks items of the column, of which none is null.
pub record Marks (validity : Validity) (c : Column) : Type 0 where
  pub covered : IsTrue (covers validity (length c.items))
  pub valid : (i : ℕ) → i < length c.items → is_valid_at validity i ≡ true → is_some (slice_index_or c.items i None) ≡ true

-- the integers of the marked items, in order
abbrev pub marked_items : Validity → Column → List ℤ
marked_items validity c = filter_map (λ item. item) (items_of validity (integers_in c))

-- the column of the marked items
abbrev pub marked_column : Validity → Column → Column
marked_column validity c = record { dtype = c.dtype; items = map (λ z. Some z) (marked_items validity c) }

-- how many items stand before block j
abbrev pub items_before : Prepared → ℕ → ℕ
items_before p j = min (1024 * j - p.offset) (length p.column.items)

-- what a list has for the items of block j
abbrev pub of_block : {A : Type 0} → Prepared → ℕ → List A → List A
of_block p j xs = between (items_before p j) (items_before p (j + 1)) xs
