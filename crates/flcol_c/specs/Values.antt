-- Plain arrays of values and a bitmap.
use Rattle.std.specs.Prelude.{ℤ, ℕ, List, length}
use Rattle.fl_types.specs.declared.dtype.PType.{PType}
use Rattle.fl_column.specs.Columns.{PrimitiveParts}
use Rattle.fl_bitmaps.specs.Bitmaps.{validity_in}

-- the plain array of these integers, of which those are valid whose bits are set
abbrev pub plain_in : PType → List ℤ → List ℕ → PrimitiveParts
plain_in ptype slots bitmap = record { ptype = ptype; slots = slots; validity = validity_in bitmap (length slots) }
