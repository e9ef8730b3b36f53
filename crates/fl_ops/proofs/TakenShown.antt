-- What a take of a bit-packed array gives is what is picked of its column.
use Rattle.std.proofs.Common.{◌≡◌, ◌∙◌, false, length, not, Ok, refl, ap, sym}
use Rattle.std.specs.Prelude.{◌&&◌}
use Rattle.std.specs.List.{list_all}
use Rattle.fl_types.specs.declared.error.FastLanesError.TheVariants.{IndexOutOfBounds, NotInteger}
use Rattle.fl_types.specs.Types.{is_integer}
use Rattle.fl_types.specs.Validities.{nullability_of}
use Rattle.fl_column.specs.Columns.{Column, PrimitiveParts, column_of_primitive, item_validity}
use Rattle.fl_column.specs.Operations.{is_in_range, take_column, take_of}
use Rattle.fl_bitpacking.specs.Columns.{BitPackedParts}
use Rattle.fl_array.specs.BitPackedArrays.{BitPackedArrayParts, BlockBoundaries, GlobalWidth, BitWidthsParts, bitpacked_tree, tree_of_bitpacked}
use Rattle.fl_array.specs.Trees.{Primitive, column}
use Rattle.fl_ops.specs.Normalized.{SameShown, normalized}
use Rattle.fl_ops.specs.Results.{picked}
use Rattle.fl_ops.specs.Selections.{is_global_for}
use Rattle.fl_ops.proofs.SelectedLaws.{ok_of_three, picked_plain}
use Rattle.fl_ops.proofs.Shown.{plain_shown}

no_reference : (parts : BitPackedParts) (widths : BitWidthsParts) → is_global_for (bitpacked_tree parts widths) ≡ false
no_reference parts (GlobalWidth width) = refl
no_reference parts (BlockBoundaries boundaries) = refl

taken_is : (indices c d : Column) → take_column indices c ≡ Ok d → take_of indices c ≡ d
taken_is indices c d h = ok_of_three (not (is_integer c.dtype && is_integer indices.dtype)) (not (list_all (is_in_range (length c.items)) indices.items)) NotInteger IndexOutOfBounds (take_of indices c) d h

pub taken_shown : (indices : Column) (packed : BitPackedArrayParts) (a b : PrimitiveParts) → b ≡ record { ptype = a.ptype; slots = a.slots; validity = item_validity (nullability_of a.validity) (column_of_primitive a).items } → column_of_primitive b ≡ column_of_primitive a → take_column indices (column (tree_of_bitpacked packed)) ≡ Ok (column_of_primitive a) → SameShown (Primitive b) (picked (take_of indices) (tree_of_bitpacked packed))
taken_shown indices packed a b parts same h =
    plain_shown a b (take_of indices (column (tree_of_bitpacked packed))) parts same (sym (taken_is indices (column (tree_of_bitpacked packed)) (column_of_primitive a) h))
    ∙ ap normalized (sym (picked_plain (take_of indices) (tree_of_bitpacked packed) (no_reference packed.parts packed.widths)))
