-- The ways in which arrays are cast.
use Rattle.std.specs.Prelude.{◌≡◌, ◌&&◌, true, not}
use Rattle.fl_types.specs.declared.dtype.DType.{DType}
use Rattle.fl_types.specs.Types.{has_ptype, same_type}
use Rattle.fl_types.specs.Values.{scalar_parts}
use Rattle.fl_array.specs.BitPackedArrays.{GlobalWidth, tree_of_bitpacked}
use Rattle.fl_array.specs.DeltaArrays.{tree_of_delta}
use Rattle.fl_array.specs.DeltaCasts.{drops_nullability}
use Rattle.fl_array.specs.FoRArrays.{ChunkReferences, GlobalReference, offset_of_references, tree_of_for}
use Rattle.fl_array.specs.RLEArrays.{tree_of_rle}
use Rattle.fl_array.specs.Trees.{Tree, column}
use Rattle.fl_ops.specs.declared.casting.CastForm.{CastForm}
use Rattle.fl_ops.specs.declared.casting.CastForm.TheVariants.{Decoded, Deltas, OverChunked, OverEncoded, Packed, Runs}
use Rattle.fl_ops.specs.Results.{cast_to, plain_cast}

-- the way in which an array is cast to a type
abbrev pub IsCastForm : CastForm → Tree → DType → Type 0
IsCastForm (Packed a width) t target = (tree_of_bitpacked a.now ≡ t) × ((GlobalWidth width ≡ a.now.widths) × (has_ptype a.now.parts.ptype target ≡ true))
IsCastForm (OverEncoded a reference) t target = (tree_of_for a.now ≡ t) × ((GlobalReference (scalar_parts reference) ≡ a.now.references) × (same_type (column a.now.encoded).dtype target ≡ true))
IsCastForm (OverChunked a references) t target = (tree_of_for a.now ≡ t) × ((ChunkReferences references.now (offset_of_references a.now.references) ≡ a.now.references) × (same_type (column a.now.encoded).dtype target ≡ true))
IsCastForm (Deltas a) t target = (tree_of_delta a.now ≡ t) × ((same_type (column a.now.bases).dtype target && not (drops_nullability (column (tree_of_delta a.now)).dtype target)) ≡ true)
IsCastForm (Runs a) t target = tree_of_rle a.now ≡ t
IsCastForm Decoded t target = cast_to target t ≡ plain_cast target (column t)
