-- The array that is read where an array was written: the same column, kinds and parts, but for the form of validities, and whether references and patches may be null.
use Rattle.std.specs.Prelude.{◌≡◌, ℕ, false, length, Some, None, Ok, IfSome, IsTrue, option_map, replicate}
use Rattle.std.specs.List.{list_all}
use Rattle.fl_types.specs.declared.dtype.PType.{PType}
use Rattle.fl_types.specs.Integers.{FitsIn, fits}
use Rattle.fl_types.specs.declared.dtype.Nullability.{Nullability}
use Rattle.fl_types.specs.declared.dtype.Nullability.TheVariants.{NonNullable}
use Rattle.fl_types.specs.declared.validity.Validity.{Validity}
use Rattle.fl_types.specs.declared.validity.Validity.TheVariants as valid
use Rattle.fl_types.specs.Types.{integer_type, with_nullability}
use Rattle.fl_types.specs.Validities.{full_validity, nullability_of}
use Rattle.fl_types.specs.Values.{ScalarParts}
use Rattle.fl_column.specs.Columns.{PrimitiveParts, column_of_primitive, option_all}
use Rattle.fl_patches.specs.PatchMaps.{PatchesParts, refusal_of}
use Rattle.fl_bitpacking.specs.Columns.{BitPackedParts}
use Rattle.fl_array.specs.Trees.{BitPackedBlocked, BitPackedGlobal, Constant, Delta, FoRChunked, FoRGlobal, Primitive, RLE, Tree}
use Rattle.fl_array.specs.Trees as tree
use Rattle.fl_serde.specs.Plain.{plain_of}
use Rattle.fl_serde.specs.Reading.{reading}
use Rattle.fl_serde.specs.Writing.{written}

-- a validity of so many items: bits where all are null
abbrev pub read_validity : ℕ → Validity → Validity
read_validity len valid.NonNullable = valid.NonNullable
read_validity len valid.AllValid = valid.AllValid
read_validity len valid.AllInvalid = valid.Array (replicate len false)
read_validity len (valid.Array bits) = valid.Array bits

-- stored integers that are none of them null, where nulls may stand or not
abbrev pub read_slots : Nullability → PrimitiveParts → PrimitiveParts
read_slots nullability p = plain_of (column_of_primitive (record { ptype = p.ptype; slots = p.slots; validity = full_validity nullability }))

-- patches of an array that may have nulls or not
abbrev pub read_patches : Nullability → PatchesParts → PatchesParts
read_patches nullability p = record {
  array_len = p.array_len;
  offset = p.offset;
  indices = read_slots NonNullable p.indices;
  values = read_slots nullability p.values;
  chunk_offsets = option_map (read_slots NonNullable) p.chunk_offsets;
}

-- packed parts
abbrev pub read_parts : BitPackedParts → BitPackedParts
read_parts parts = record {
  packed = parts.packed;
  ptype = parts.ptype;
  validity = read_validity parts.len parts.validity;
  patches = option_map (read_patches (nullability_of parts.validity)) parts.patches;
  offset = parts.offset;
  len = parts.len;
}

-- a reference, which is never null
abbrev pub read_reference : ScalarParts → ScalarParts
read_reference reference = record { dtype = with_nullability NonNullable reference.dtype; value = reference.value }

-- the array that is read where this one was written
abbrev pub read_back : Tree → Tree
read_back (Primitive p) = Primitive (record { ptype = p.ptype; slots = p.slots; validity = read_validity (length p.slots) p.validity })
read_back (Constant c) = Constant c
read_back (tree.Bool b) = tree.Bool (record { bits = b.bits; validity = read_validity (length b.bits) b.validity })
read_back (BitPackedGlobal parts width) = BitPackedGlobal (read_parts parts) width
read_back (BitPackedBlocked parts boundaries) = BitPackedBlocked (read_parts parts) (read_back boundaries)
read_back (FoRGlobal encoded reference) = FoRGlobal (read_back encoded) (read_reference reference)
read_back (FoRChunked encoded references offset) = FoRChunked (read_back encoded) (read_back references) offset
read_back (Delta bases deltas parts) = Delta (read_back bases) (read_back deltas) (record { validity = read_validity parts.len parts.validity; offset = parts.offset; len = parts.len })
read_back (RLE values indices offsets window) = RLE (read_back values) (read_back indices) (read_back offsets) window

-- ---- the law
-- The node of an array is read as that array.
pub record IsReadBack (t : Tree) : Type 0 where
  pub reads : reading (written t) ≡ Ok (read_back t)

-- Patches are ones that there can be, of integers of their types.
pub record ArePatchesOfTypes (q : PatchesParts) : Type 0 where
  pub none : refusal_of q ≡ None
  pub indices : IsTrue (list_all (fits q.indices.ptype) q.indices.slots)
  pub values : IsTrue (list_all (fits q.values.ptype) q.values.slots)
  pub offsets : IsTrue (option_all (λ o. list_all (fits o.ptype) o.slots) q.chunk_offsets)

-- The integer of a scalar, if it has one, is one of its type.
abbrev pub HasFittingInteger : ScalarParts → Type 0
HasFittingInteger scalar = IfSome scalar.value (λ z. (p : PType) → integer_type scalar.dtype ≡ Some p → FitsIn p z)
