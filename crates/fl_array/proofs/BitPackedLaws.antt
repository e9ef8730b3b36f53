-- Bit-packed arrays: their column, its length, type and validity.
use Rattle.std.proofs.Common.{◌≡◌, ℕ, length, get_or, refl, ap, sym, ◌∙◌, None, Ok}
use Rattle.std.specs.Prelude.{is_some, unwrap_or}
use Rattle.fl_types.specs.declared.dtype.DType.TheVariants.{Primitive}
use Rattle.fl_types.specs.Types.{is_integer, nullability_in}
use Rattle.fl_types.specs.Validities.{is_valid_at, nullability_of}
use Rattle.fl_column.specs.Columns.{Column}
use Rattle.fl_patches.specs.PatchMaps.{patched_in}
use Rattle.fl_bitpacking.specs.Blocks.{Blocks}
use Rattle.fl_bitpacking.specs.Columns.{BitPackedParts, column_of_packed, packed_item, stored}
use Rattle.fl_bitpacking.specs.Refusals.{AreConsistent}
use Rattle.fl_bitpacking.proofs.Tables.{get_or-table, length-table}
use Rattle.fl_array.specs.BitPackedArrays.{BitPackedArrayParts, BitWidthsParts, BlockBoundaries, GlobalWidth, bitpacked_tree, blocks_of_widths, tree_of_bitpacked}
use Rattle.fl_array.specs.Reads.{IsValidityOf, integer_column}
use Rattle.fl_array.specs.Trees.{column}
use Rattle.fl_array.proofs.ValidityLaws.{is_some-cond}

-- the column of an array, by where its blocks lie
column_by_widths : (parts : BitPackedParts) (widths : BitWidthsParts) → column (bitpacked_tree parts widths) ≡ column_of_packed parts (blocks_of_widths widths)
column_by_widths parts (GlobalWidth width) = refl
column_by_widths parts (BlockBoundaries boundaries) = refl

pub bitpacked_column : (a : BitPackedArrayParts) → column (tree_of_bitpacked a) ≡ column_of_packed a.parts (blocks_of_widths a.widths)
bitpacked_column a = column_by_widths a.parts a.widths

pub bitpacked_len : (a : BitPackedArrayParts) → length (column (tree_of_bitpacked a)).items ≡ a.parts.len
bitpacked_len a = ap (λ (c : Column). length c.items) (bitpacked_column a) ∙ length-table (packed_item a.parts (blocks_of_widths a.widths)) a.parts.len

pub bitpacked_dtype : (a : BitPackedArrayParts) → (column (tree_of_bitpacked a)).dtype ≡ Primitive a.parts.ptype (nullability_of a.parts.validity)
bitpacked_dtype a = ap (λ (c : Column). c.dtype) (bitpacked_column a)

item_is_some : (parts : BitPackedParts) (blocks : Blocks) (i : ℕ) → is_valid_at parts.validity i ≡ is_some (packed_item parts blocks i)
unfolding packed_item
item_is_some parts blocks i = is_some-cond (is_valid_at parts.validity i) (unwrap_or (patched_in parts.patches i) (stored parts blocks i))

pub bitpacked_validity : (a : BitPackedArrayParts) → AreConsistent a.parts → IsValidityOf a.parts.validity (column (tree_of_bitpacked a))
bitpacked_validity a s =
    let blocks = blocks_of_widths a.widths in
    let long = bitpacked_len a in
    record {
      covered = rw long s.fit.covers;
      nullable = sym (ap (λ (c : Column). nullability_in c.dtype) (bitpacked_column a));
      valid = λ i h.
          item_is_some a.parts blocks i
          ∙ ap (λ item. is_some item) (sym (ap (λ (c : Column). get_or c.items i None) (bitpacked_column a) ∙ get_or-table (packed_item a.parts blocks) a.parts.len i None (rw (← long) h)));
    }

-- packed items are integers
pub bitpacked_integers : (a : BitPackedArrayParts) → integer_column (column (tree_of_bitpacked a)) ≡ Ok (column (tree_of_bitpacked a))
bitpacked_integers a = let typed = ap is_integer (bitpacked_dtype a) in rw typed refl
