-- Arrays that are the same but for slots under nulls.
use Rattle.std.specs.Prelude.{◌≡◌}
use Rattle.fl_types.specs.Types.{nullability_in}
use Rattle.fl_column.specs.Columns.{Column, PrimitiveParts, column_of_primitive, integers_in, item_validity, ptype_of_column}
use Rattle.fl_array.specs.Trees.{FoRChunked, FoRGlobal, Primitive, RLE, Tree}

-- the plain array of a column of integers: 0 under a null, and the simplest validity
abbrev pub plain_of : Column → PrimitiveParts
plain_of c = record { ptype = ptype_of_column c; slots = integers_in c; validity = item_validity (nullability_in c.dtype) c.items }

-- the same plain array with 0 under each null
abbrev pub zero_under_nulls : PrimitiveParts → PrimitiveParts
zero_under_nulls p = record { ptype = p.ptype; slots = integers_in (column_of_primitive p); validity = p.validity }

-- an array with 0 under each null of the plain arrays of which its items are made
abbrev pub normalized : Tree → Tree
normalized (Primitive p) = Primitive (zero_under_nulls p)
normalized (FoRGlobal encoded reference) = FoRGlobal (normalized encoded) reference
normalized (FoRChunked encoded references offset) = FoRChunked (normalized encoded) references offset
normalized (RLE values indices offsets window) = RLE (normalized values) (normalized indices) offsets window
normalized other = other

-- Two arrays show the same: they have the same kinds and parts, but that slots under nulls are of no account.
abbrev pub SameShown : Tree → Tree → Type 0
SameShown a b = normalized a ≡ normalized b
