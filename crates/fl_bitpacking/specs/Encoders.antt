-- What packing makes of plain arrays, and when it is refused.
use Rattle.std.specs.Prelude.{◌≡◌, ◌≢◌, ◌&&◌, ◌==◌, ℕ, not, List, length, Option, Some, None, Result, Ok, Err, nat_le, nat_lt, if◌then◌else◌}
use Rattle.std.specs.List.{list_all, list_any}
use Rattle.fl_types.specs.declared.error.FastLanesError.{FastLanesError}
use Rattle.fl_types.specs.declared.error.FastLanesError.TheVariants.{AllBlocksNative, BlockCount, NegativeValue, OutOfMemory, WidthTooLarge}
use Rattle.fl_types.specs.Integers.{bits_of_type}
use Rattle.fl_types.specs.Validities.{items_of}
use Rattle.fl_column.specs.Columns.{PrimitiveParts}
use Rattle.fl_patches.specs.PatchMaps.{PatchesParts}
use Rattle.fl_column.specs.Chunks.{chunk_count}
use Rattle.fl_patches.specs.Costs.{best_width, best_widths}
use Rattle.fl_patches.specs.Exceptions.{histogram_of, is_negative}
use Rattle.fl_patches.specs.PatchParts.{blocked_patches, global_patches}
use Rattle.fl_bitpacking.specs.Blocks.{ArePacked, Blocks, boundaries_of, boundary_blocks, global_blocks}
use Rattle.fl_bitpacking.specs.Columns.{BitPackedParts}

-- A call answers, unless there is a refusal, which it then gives, or memory ran out.
abbrev pub AnswersUnless : {X : Type 0} → Option FastLanesError → Result X FastLanesError → Type 0
AnswersUnless None (Ok x) = Unit {0}
AnswersUnless None (Err e) = e ≡ OutOfMemory
AnswersUnless (Some refusal) (Ok x) = ⊥
AnswersUnless (Some refusal) (Err e) = e ≢ OutOfMemory → e ≡ refusal

-- the parts of an array whose blocks have these bytes, beside these patches
abbrev pub packed_parts : PrimitiveParts → Option PatchesParts → List ℕ → BitPackedParts
packed_parts p patches bytes = record { packed = bytes; ptype = p.ptype; validity = p.validity; patches = patches; offset = 0; len = length p.slots }

-- these are an array's parts: its packed low bits, beside these patches
pub record IsPacked (p : PrimitiveParts) (blocks : Blocks) (patches : Option PatchesParts) (parts : BitPackedParts) : Type 0 where
  pub packed : ArePacked p.ptype p.slots blocks parts.packed
  pub whole : parts ≡ packed_parts p patches parts.packed

-- at one width: the valid items that have more bits are patches
abbrev pub IsPackedAt : PrimitiveParts → ℕ → BitPackedParts → Type 0
IsPackedAt p width parts = IsPacked p (global_blocks width) (global_patches width p) parts

-- at a width for each block: the valid items that have more bits than the width of their block are patches
abbrev pub IsPackedInBlocks : PrimitiveParts → List ℕ → BitPackedParts → Type 0
IsPackedInBlocks p widths parts = IsPacked p (boundary_blocks (boundaries_of widths)) (blocked_patches widths p) parts

-- why an array is not packed at a width, if it is not
abbrev pub width_refusal : PrimitiveParts → ℕ → Option FastLanesError
width_refusal p width =
    if list_any is_negative (items_of p.validity p.slots) then Some NegativeValue
    else if nat_le (bits_of_type p.ptype) width then Some WidthTooLarge
    else None

-- why these widths are not those of an array's blocks, if they are not
abbrev pub list_refusal : PrimitiveParts → List ℕ → Option FastLanesError
list_refusal p widths =
    if not (length widths == chunk_count (length p.slots)) then Some BlockCount
    else if list_any (nat_lt (bits_of_type p.ptype)) widths then Some WidthTooLarge
    else if nat_lt 0 (length widths) && list_all (λ width. width == bits_of_type p.ptype) widths then Some AllBlocksNative
    else None

-- why an array's blocks are not packed at these widths, if they are not
abbrev pub widths_refusal : PrimitiveParts → List ℕ → Option FastLanesError
widths_refusal p widths =
    if list_any is_negative (items_of p.validity p.slots) then Some NegativeValue
    else list_refusal p widths

-- the width of least cost for an array
abbrev pub best_width_of : PrimitiveParts → ℕ
best_width_of p = best_width p.ptype (histogram_of p.ptype (items_of p.validity p.slots))

-- the width of least cost for each of an array's blocks
abbrev pub best_widths_of : PrimitiveParts → List ℕ
best_widths_of p = best_widths p.ptype (items_of p.validity p.slots)
