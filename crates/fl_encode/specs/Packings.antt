-- The arrays that bit-packing and repetition make of a primitive one, and when they make none.
use Rattle.std.specs.Prelude.{◌≡◌, ℕ, pos, List, length, Option, Some, None, Result, Ok, Err, slice_index_or, if◌then◌else◌}
use Rattle.fl_types.specs.declared.error.FastLanesError.{FastLanesError}
use Rattle.fl_types.specs.declared.error.FastLanesError.TheVariants.{CastOutOfRange}
use Rattle.fl_column.specs.Columns.{ConstantParts, PrimitiveParts, column_of_primitive}
use Rattle.fl_column.specs.Queries.{are_constant}
use Rattle.fl_bitpacking.specs.Blocks.{boundary_array}
use Rattle.fl_bitpacking.specs.Columns.{BitPackedParts}
use Rattle.fl_bitpacking.specs.Encoders.{IsPackedAt, IsPackedInBlocks, best_width_of, best_widths_of, width_refusal, widths_refusal}
use Rattle.fl_array.specs.Trees.{BitPackedBlocked, BitPackedGlobal, Constant, Primitive, Tree}
use Rattle.fl_encode.specs.declared.scheme.Packing.{Packing}
use Rattle.fl_encode.specs.declared.scheme.Packing.TheVariants.{BestWidth, BestWidths, Width}

-- ---- packing
-- why a primitive array is not packed, if it is not
abbrev pub packing_refusal : Packing → PrimitiveParts → Option FastLanesError
packing_refusal (Width width) p = width_refusal p width
packing_refusal BestWidth p = width_refusal p (best_width_of p)
packing_refusal BestWidths p = widths_refusal p (best_widths_of p)

-- the array is a primitive one that is packed at this width
abbrev pub IsPackedArray : PrimitiveParts → ℕ → Tree → Type 0
IsPackedArray p width t = (parts : BitPackedParts) × IsPackedAt p width parts × (t ≡ BitPackedGlobal parts width)

-- the array is a primitive one whose blocks are packed at these widths
abbrev pub IsBlockedArray : PrimitiveParts → List ℕ → Tree → Type 0
IsBlockedArray p widths t = (parts : BitPackedParts) × IsPackedInBlocks p widths parts × (t ≡ BitPackedBlocked parts (Primitive (boundary_array widths)))

-- the array is a primitive one that is packed in this way
abbrev pub IsPackedAs : Packing → PrimitiveParts → Tree → Type 0
IsPackedAs (Width width) p t = IsPackedArray p width t
IsPackedAs BestWidth p t = IsPackedArray p (best_width_of p) t
IsPackedAs BestWidths p t = IsBlockedArray p (best_widths_of p) t

-- ---- repetition
-- why a primitive array is not made a constant one, if it is not: two of its items differ
abbrev pub constant_refusal : PrimitiveParts → Option FastLanesError
constant_refusal p = if are_constant (column_of_primitive p).items then None else Some CastOutOfRange

-- the first item, 0 of an empty array, as often as there are items
abbrev pub constant_of : PrimitiveParts → ConstantParts
constant_of p = record {
  scalar = record { dtype = (column_of_primitive p).dtype; value = slice_index_or (column_of_primitive p).items 0 (Some (pos 0)) };
  len = length p.slots;
}

-- what repetition answers, which asks for no memory
abbrev pub repeated : PrimitiveParts → Result Tree FastLanesError
repeated p = if are_constant (column_of_primitive p).items then Ok (Constant (constant_of p)) else Err CastOutOfRange
