-- Arrays that their constructors make of their parts, all the way down.
use Rattle.std.specs.Prelude.{◌^◌, ◌&&◌, ◌||◌, ℕ, Bool, length, is_none, is_some, nat_lt}
use Rattle.std.specs.List.{list_all}
use Rattle.fl_types.specs.Integers.{fits}
use Rattle.fl_types.specs.Types.{is_integer, is_nullable}
use Rattle.fl_types.specs.Validities.{covers}
use Rattle.fl_types.specs.Values.{ScalarParts, fits_in}
use Rattle.fl_column.specs.Columns.{PrimitiveParts, option_all}
use Rattle.fl_patches.specs.PatchMaps.{PatchesParts, refusal_of}
use Rattle.fl_codec.specs.DeltaRefusals.{delta_refusal}
use Rattle.fl_codec.specs.RunRefusals.{rle_refusal}
use Rattle.fl_array.specs.BitPackedArrays.{BlockBoundaries, GlobalWidth, bit_widths_refusal}
use Rattle.fl_array.specs.FoRArrays.{ChunkReferences, GlobalReference, for_refusal, has_no_constant}
use Rattle.fl_array.specs.Trees.{BitPackedBlocked, BitPackedGlobal, Constant, Delta, FoRChunked, FoRGlobal, Primitive, RLE, Tree, column}
use Rattle.fl_array.specs.Trees as tree

-- a number below 2 ^ 64, as indices and lengths are
abbrev pub is_index : ℕ → Bool
is_index n = nat_lt n (2 ^ 64)

-- integers of their type, under a validity that covers them
abbrev pub is_primitive : PrimitiveParts → Bool
is_primitive p = covers p.validity (length p.slots) && (list_all (fits p.ptype) p.slots && is_index (length p.slots))

-- a value of its type, or a null where the type may have one
abbrev pub is_scalar : ScalarParts → Bool
is_scalar scalar = option_all (fits_in scalar.dtype) scalar.value && (is_some scalar.value || is_nullable scalar.dtype)

-- patches that are accepted, over such arrays
abbrev pub is_patches : PatchesParts → Bool
is_patches p = is_none (refusal_of p) && (is_index p.offset && (is_primitive p.indices && (is_primitive p.values && option_all is_primitive p.chunk_offsets)))

-- the array, and each array in it, is one whose constructor refuses nothing; and references of chunks are no constant array, which would be one reference
abbrev pub is_well_formed : Tree → Bool
is_well_formed (Primitive p) = is_primitive p
is_well_formed (Constant c) = is_integer c.scalar.dtype && (is_scalar c.scalar && is_index c.len)
is_well_formed (tree.Bool b) = covers b.validity (length b.bits) && is_index (length b.bits)
is_well_formed (BitPackedGlobal parts width) = option_all is_patches parts.patches && is_none (bit_widths_refusal parts (GlobalWidth width))
is_well_formed (BitPackedBlocked parts boundaries) = is_well_formed boundaries && (option_all is_patches parts.patches && is_none (bit_widths_refusal parts (BlockBoundaries boundaries)))
is_well_formed (FoRGlobal encoded reference) = is_well_formed encoded && (is_scalar reference && is_none (for_refusal (column encoded) (GlobalReference reference)))
is_well_formed (FoRChunked encoded references offset) = is_well_formed encoded && (is_well_formed references && (has_no_constant (ChunkReferences references offset) && is_none (for_refusal (column encoded) (ChunkReferences references offset))))
is_well_formed (Delta bases deltas parts) = is_well_formed bases && (is_well_formed deltas && (is_index parts.len && is_none (delta_refusal (column bases) (column deltas) parts.validity parts.offset parts.len)))
is_well_formed (RLE values indices offsets window) = is_well_formed values && (is_well_formed indices && (is_well_formed offsets && (is_index window.len && is_none (rle_refusal (column values) (column indices) (column offsets) window.offset window.len))))
