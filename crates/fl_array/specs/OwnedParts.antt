-- The parts of a bit-packed array as its owner has them.
use Rattle.fl_types.specs.declared.dtype.PType.{PType}
use Rattle.fl_bitpacking.specs.Columns.{BitPackedParts}
use Rattle.fl_array.specs.declared.bitpacking.BitPackedDataParts.{BitPackedDataParts}

-- the owned parts of an array of a type, without the widths
abbrev pub owned_parts : PType → BitPackedDataParts → BitPackedParts
owned_parts ptype p = record { packed = p.packed; ptype = ptype; validity = p.validity; patches = p.patches; offset = p.offset; len = p.len }
