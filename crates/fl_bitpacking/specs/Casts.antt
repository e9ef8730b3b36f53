-- Packed parts of the same integers, where nulls may stand or not.
use Rattle.std.specs.Prelude.{option_map}
use Rattle.fl_types.specs.declared.dtype.Nullability.{Nullability}
use Rattle.fl_types.specs.declared.dtype.Nullability.TheVariants.{NonNullable, Nullable}
use Rattle.fl_types.specs.declared.validity.Validity.{Validity}
use Rattle.fl_types.specs.declared.validity.Validity.TheVariants as valid
use Rattle.fl_column.specs.Columns.{PrimitiveParts}
use Rattle.fl_patches.specs.PatchMaps.{PatchesParts}
use Rattle.fl_bitpacking.specs.Columns.{BitPackedParts}

-- the validity of the same items where nulls may stand or not
abbrev pub cast_validity : Nullability → Validity → Validity
cast_validity NonNullable validity = valid.NonNullable
cast_validity Nullable valid.NonNullable = valid.AllValid
cast_validity Nullable valid.AllValid = valid.AllValid
cast_validity Nullable valid.AllInvalid = valid.AllInvalid
cast_validity Nullable (valid.Array bits) = valid.Array bits

-- the same stored integers where nulls may stand or not
abbrev pub cast_primitive : Nullability → PrimitiveParts → PrimitiveParts
cast_primitive nullability p = record { ptype = p.ptype; slots = p.slots; validity = cast_validity nullability p.validity }

-- patches of the same values, of a column in which nulls may stand or not
abbrev pub cast_patches : Nullability → PatchesParts → PatchesParts
cast_patches nullability p = record { array_len = p.array_len; offset = p.offset; indices = p.indices; values = cast_primitive nullability p.values; chunk_offsets = p.chunk_offsets }

-- the same packed bytes where nulls may stand or not
abbrev pub cast_packed : Nullability → BitPackedParts → BitPackedParts
cast_packed nullability parts = record {
  packed = parts.packed;
  ptype = parts.ptype;
  validity = cast_validity nullability parts.validity;
  patches = option_map (cast_patches nullability) parts.patches;
  offset = parts.offset;
  len = parts.len;
}
