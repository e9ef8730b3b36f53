-- Bit-packed arrays that are made of primitive ones.
use Rattle.std.specs.Prelude.{◌≡◌, ℕ, List, Option, Some, None}
use Rattle.fl_types.specs.declared.error.FastLanesError.{FastLanesError}
use Rattle.fl_types.specs.declared.error.FastLanesError.TheVariants.{NotInteger}
use Rattle.fl_column.specs.Columns.{PrimitiveParts}
use Rattle.fl_bitpacking.specs.Blocks.{boundary_array}
use Rattle.fl_bitpacking.specs.Encoders.{IsPackedAt, IsPackedInBlocks, width_refusal, widths_refusal}
use Rattle.fl_array.specs.BitPackedArrays.{BitPackedArrayParts, BlockBoundaries, GlobalWidth}
use Rattle.fl_array.specs.Reads.{primitive_in}
use Rattle.fl_array.specs.Trees.{Tree, Primitive}

-- the array is a primitive one that is packed at this width
pub record IsEncodedAt (p : PrimitiveParts) (width : ℕ) (a : BitPackedArrayParts) : Type 0 where
  pub widths : a.widths ≡ GlobalWidth width
  pub packed : IsPackedAt p width a.parts

-- the array is a primitive one whose blocks are packed at these widths
pub record IsEncodedInBlocks (p : PrimitiveParts) (widths : List ℕ) (a : BitPackedArrayParts) : Type 0 where
  pub boundaries : a.widths ≡ BlockBoundaries (Primitive (boundary_array widths))
  pub packed : IsPackedInBlocks p widths a.parts

-- why an array is not encoded, where this says it of a primitive one
abbrev pub primitive_refusal : (PrimitiveParts → Option FastLanesError) → Option PrimitiveParts → Option FastLanesError
primitive_refusal refusal (Some p) = refusal p
primitive_refusal refusal None = Some NotInteger

-- why an array is not packed at a width, if it is not
abbrev pub encode_refusal : Tree → ℕ → Option FastLanesError
encode_refusal t width = primitive_refusal (λ p. width_refusal p width) (primitive_in t)

-- why an array's blocks are not packed at these widths, if they are not
abbrev pub encode_blocked_refusal : Tree → List ℕ → Option FastLanesError
encode_blocked_refusal t widths = primitive_refusal (λ p. widths_refusal p widths) (primitive_in t)
