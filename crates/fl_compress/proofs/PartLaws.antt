-- The items of an array, or its deltas, as an array.
use Rattle.std.proofs.Common.{length, IsTrue, refl}
use Rattle.std.specs.List.{list_all}
use Rattle.fl_types.specs.Integers.{fits}
use Rattle.fl_types.specs.Validities.{covers}
use Rattle.fl_column.specs.Columns.{PrimitiveParts}
use Rattle.fl_codec.proofs.DeltaLeasts.{deltas_fit}
use Rattle.fl_compress.specs.declared.parts.Part.{Part}
use Rattle.fl_compress.specs.declared.parts.Part.TheVariants.{Deltas, Items}
use Rattle.fl_compress.specs.Choices.{part_of}

pub part_covers : (part : Part) (p : PrimitiveParts) → IsTrue (covers p.validity (length p.slots)) → IsTrue (covers (part_of part p).validity (length (part_of part p).slots))
part_covers Items p h = h
part_covers Deltas p h = refl

pub part_fits : (part : Part) (p : PrimitiveParts) → IsTrue (list_all (fits p.ptype) p.slots) → IsTrue (list_all (fits (part_of part p).ptype) (part_of part p).slots)
part_fits Items p h = h
part_fits Deltas p h = deltas_fit p
