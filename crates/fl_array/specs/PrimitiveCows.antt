-- Primitive arrays that are borrowed or owned.
use Rattle.fl_column.specs.Columns.{PrimitiveParts}
use Rattle.fl_array.specs.declared.array.primitive_cow.PrimitiveCow.{PrimitiveCow}
use Rattle.fl_array.specs.declared.array.primitive_cow.PrimitiveCow.TheVariants.{Borrowed, Owned}

-- the parts of the primitive array, whoever owns it
abbrev pub primitive_of_cow : PrimitiveCow → PrimitiveParts
primitive_of_cow (Borrowed p) = p.now
primitive_of_cow (Owned p) = p
