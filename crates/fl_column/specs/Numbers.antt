-- The natural numbers that indices, offsets and boundaries are.
use Rattle.std.specs.Prelude.{ℕ, ℤ, pos, List, map, unsigned_abs}
use Rattle.fl_types.specs.declared.validity.Validity.TheVariants.{NonNullable}
use Rattle.fl_types.specs.Integers.{smallest_type}
use Rattle.fl_column.specs.Columns.{PrimitiveParts}

-- the numbers of these items
abbrev pub numbers_by : {I : Type 0} → (I → ℤ) → List I → List ℕ
numbers_by value items = map unsigned_abs (map value items)

-- the stored numbers of a plain array
abbrev pub numbers : PrimitiveParts → List ℕ
numbers p = map unsigned_abs p.slots

-- the plain array of these numbers, without nulls, of the smallest unsigned type that holds a bound
abbrev pub index_array : ℕ → List ℕ → PrimitiveParts
index_array bound numbers = record { ptype = smallest_type bound; slots = map pos numbers; validity = NonNullable }
