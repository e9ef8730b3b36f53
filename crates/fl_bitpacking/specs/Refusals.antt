-- When parts make a bit-packed array.
use Rattle.std.specs.Prelude.{◌+◌, ◌-◌, ◌*◌, ◌^◌, ◌<◌, ◌==◌, ℕ, not, List, length, Option, Some, None, Result, Ok, Err, nat_le, nat_lt, slice_index, if◌then◌else◌}
use Rattle.fl_types.specs.declared.dtype.DType.{DType}
use Rattle.fl_types.specs.declared.error.FastLanesError.{FastLanesError}
use Rattle.fl_types.specs.declared.error.FastLanesError.TheVariants.{OffsetTooLarge, LengthOverflow, WidthTooLarge, ValidityLength, PatchType, PatchLength, PackedLength, BlockOffsetsType, BlockOffsetsCount, BlockBoundary, BlockSpan}
use Rattle.fl_types.specs.Integers.{bits_of_type, same_ptype}
use Rattle.fl_types.specs.Types.{is_index_type}
use Rattle.fl_types.specs.Validities.{covers}
use Rattle.fl_column.specs.Columns.{Column, numbers_of, option_all}
use Rattle.fl_column.specs.Chunks.{chunk_count}
use Rattle.fl_bitpacking.specs.Blocks.{are_blocks}
use Rattle.fl_bitpacking.specs.Columns.{BitPackedParts, block_count}
use Rattle.fl_bitpacking.specs.Parts.{Fit}

-- a value, unless it is refused
abbrev pub accepted : {A : Type 0} → A → Option FastLanesError → Result A FastLanesError
accepted x None = Ok x
accepted x (Some refusal) = Err refusal

-- the parts fit each other, and all positions of their blocks can be counted
pub record AreConsistent (parts : BitPackedParts) : Type 0 where
  pub fit : Fit parts
  pub few : 1024 * block_count parts < 2 ^ 64

-- why validity or patches are not those of the items, if they are not
abbrev pub validity_and_patches_refusal : BitPackedParts → Option FastLanesError
validity_and_patches_refusal parts =
    if not (covers parts.validity parts.len) then Some ValidityLength
    else if not (option_all (λ p. same_ptype p.values.ptype parts.ptype) parts.patches) then Some PatchType
    else if not (option_all (λ p. p.array_len == parts.len) parts.patches) then Some PatchLength
    else None

-- the first of two refusals
abbrev pub otherwise : Option FastLanesError → Option FastLanesError → Option FastLanesError
otherwise (Some refusal) other = Some refusal
otherwise None other = other

-- why there are no positions of this many items from an offset on in blocks of 1024, if there are none
abbrev pub positions_refusal : ℕ → ℕ → Option FastLanesError
positions_refusal offset len =
    if nat_le 1024 offset then Some OffsetTooLarge
    else if nat_le (2 ^ 64) (1024 * chunk_count (offset + len)) then Some LengthOverflow
    else None

-- why parts make no array whose blocks all have a width, the first reason that holds
abbrev pub global_refusal : BitPackedParts → ℕ → Option FastLanesError
global_refusal parts width =
    otherwise (positions_refusal parts.offset parts.len) (
    otherwise (if nat_lt (bits_of_type parts.ptype) width then Some WidthTooLarge else None) (
    otherwise (validity_and_patches_refusal parts) (
    if not (length parts.packed == 128 * width * block_count parts) then Some PackedLength else None)))

-- why this many boundaries of a type are not one for each block and one more, if they are not
abbrev pub block_offsets_refusal : ℕ → DType → ℕ → Option FastLanesError
block_offsets_refusal blocks dtype count =
    if not (is_index_type dtype) then Some BlockOffsetsType
    else if not (count == blocks + 1) then Some BlockOffsetsCount
    else None

-- why boundaries are not those of the bytes, if they are not
abbrev pub boundaries_refusal : BitPackedParts → List ℕ → Option FastLanesError
boundaries_refusal parts boundaries =
    if not (are_blocks (bits_of_type parts.ptype) (length parts.packed) boundaries) then Some BlockBoundary
    else if not (slice_index boundaries (block_count parts) - slice_index boundaries 0 == length parts.packed) then Some BlockSpan
    else None

-- why parts make no array whose blocks lie between boundaries, the first reason that holds
abbrev pub blocked_refusal : BitPackedParts → Column → Option FastLanesError
blocked_refusal parts boundaries =
    otherwise (positions_refusal parts.offset parts.len) (
    otherwise (block_offsets_refusal (block_count parts) boundaries.dtype (length boundaries.items)) (
    otherwise (boundaries_refusal parts (numbers_of boundaries)) (validity_and_patches_refusal parts)))
