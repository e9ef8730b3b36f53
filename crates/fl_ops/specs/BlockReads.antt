-- What is read of a column block by block.
use Rattle.std.specs.Prelude.{◌≡◌, ◌+◌, ◌-◌, ◌*◌, ◌<◌, ◌≤◌, ℕ, ℤ, pos, Bool, false, true, List, None, Some, length, min, slice_index_or, flat_map}
use Rattle.fl_types.specs.declared.dtype.Nullability.{Nullability}
use Rattle.fl_types.specs.declared.dtype.Nullability.TheVariants.{NonNullable, Nullable}
use Rattle.fl_types.specs.declared.dtype.PType.{PType}
use Rattle.fl_types.specs.declared.validity.Validity.{Validity}
use Rattle.fl_types.specs.declared.validity.Validity.TheVariants as valid
use Rattle.fl_types.specs.Bits.{between, is_set, kept}
use Rattle.fl_types.specs.Integers.{fits}
use Rattle.fl_column.specs.Columns.{Column, option_all}
use Rattle.fl_array.specs.Readers.{AreItemsFrom, Prepared}
use Rattle.fl_array.specs.Reads.{IsValidityOf}

-- which items of a column are null, and the n integers that were read from an index on
pub record AreRead (validity : Validity) (start n : ℕ) (integer : ℕ → ℤ) (c : Column) : Type 0 where
  pub validity_of : IsValidityOf validity c
  pub range : start + n ≤ length c.items
  pub items : AreItemsFrom start n integer c

-- how many items stand before block j
abbrev pub items_before : Prepared → ℕ → ℕ
items_before p j = min (1024 * j - p.offset) (length p.column.items)

-- the integers of the first n items of a column: any where it has a null
pub record AreFirst (integers : List ℤ) (n : ℕ) (c : Column) : Type 0 where
  pub long : length integers ≡ n
  pub items : AreItemsFrom 0 n (λ i. slice_index_or integers i (pos 0)) c

-- what a mask keeps of the integers of the first n items
abbrev pub AreKept : List Bool → List ℤ → ℕ → Column → Type 0
AreKept bits integers n c = (all : List ℤ) × (AreFirst all n c × (integers ≡ kept bits all))

-- the answers of a test for the items of a column: any where it has a null
pub record AreAnswers (test : ℤ → Bool) (bits : List Bool) (c : Column) : Type 0 where
  pub long : length bits ≡ length c.items
  pub each : (i : ℕ) (z : ℤ) → i < length c.items → slice_index_or c.items i None ≡ Some z → slice_index_or bits i false ≡ test z

-- sixteen words for each of the first n blocks, whose bits are the answers of a test for the items of the blocks
pub record AreAnswered (test : ℤ → Bool) (words : List ℕ) (n : ℕ) (p : Prepared) : Type 0 where
  pub long : length words ≡ 16 * n
  pub each : (i : ℕ) (z : ℤ) → i < length p.column.items → p.offset + i < 1024 * n → slice_index_or p.column.items i None ≡ Some z → is_set words (p.offset + i) ≡ test z

-- the integers of the first n items of a column, all of which a type has
pub record AreCast (ptype : PType) (integers : List ℤ) (n : ℕ) (c : Column) : Type 0 where
  pub first : AreFirst integers n c
  pub fit : (i : ℕ) → i < n → option_all (fits ptype) (slice_index_or c.items i None) ≡ true

-- the validity of the same items where nulls may stand or not
abbrev pub validity_in : Nullability → Validity → Validity
validity_in NonNullable validity = valid.NonNullable
validity_in Nullable valid.NonNullable = valid.AllValid
validity_in Nullable other = other

-- the validity of the items of ranges
abbrev pub validity_of_ranges : List (ℕ × ℕ) → Validity → Validity
validity_of_ranges ranges (valid.Array bits) = valid.Array (flat_map (λ range. between range.0 (range.0 + range.1) bits) ranges)
validity_of_ranges ranges other = other
