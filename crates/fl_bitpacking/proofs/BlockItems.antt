-- Single items, by where their block lies.
use Rattle.std.proofs.Common.{◌≡◌, ◌<◌, ◌∙◌, ℕ, Bool, None, Some, false, get_or, refl, true}
use Rattle.std.specs.Prelude.{unwrap_or, if◌then◌else◌}
use Rattle.fl_types.specs.declared.dtype.DType.TheVariants.{Primitive}
use Rattle.fl_types.specs.declared.dtype.Nullability.TheVariants.{Nullable}
use Rattle.fl_types.specs.declared.validity.Validity.{Validity}
use Rattle.fl_types.specs.declared.validity.Validity.TheVariants as valid
use Rattle.fl_types.specs.Validities.{is_valid_at, nullability_of}
use Rattle.fl_column.specs.Queries.{scalar_in}
use Rattle.fl_patches.specs.PatchMaps.{patched_in}
use Rattle.fl_bitpacking.specs.Blocks.{Blocks, item_of_blocks}
use Rattle.fl_bitpacking.specs.Columns.{BitPackedParts, column_of_packed, packed_item, stored}
use Rattle.fl_bitpacking.specs.SingleItems.{IsBlockOf, stored_in_block}
use Rattle.fl_bitpacking.specs.declared.packed_data.single_items.BlockExtent.{BlockExtent}
use Rattle.fl_bitpacking.proofs.Tables.{get_or-table}

-- what is stored of an item is stored in its block
pub stored_there : (p : BitPackedParts) (blocks : Blocks) (i : ℕ) (extent : BlockExtent) → IsBlockOf p blocks i extent → stored_in_block p extent i ≡ stored p blocks i
unfolding item_of_blocks
stored_there p blocks i extent h = rw (h.start, h.width) refl

item_by : (valid : Bool) (p : BitPackedParts) (blocks : Blocks) (i : ℕ) → is_valid_at p.validity i ≡ valid → packed_item p blocks i ≡ (if valid then Some (unwrap_or (patched_in p.patches i) (stored p blocks i)) else None)
unfolding packed_item
item_by valid p blocks i h = rw h refl

-- an item that is null
pub null_item : (p : BitPackedParts) (blocks : Blocks) (i : ℕ) → i < p.len → is_valid_at p.validity i ≡ false → get_or (column_of_packed p blocks).items i None ≡ None
null_item p blocks i range h = get_or-table (packed_item p blocks) p.len i None range ∙ item_by false p blocks i h

-- an item that is valid, by what is stored in its block
pub valid_item : (p : BitPackedParts) (blocks : Blocks) (i : ℕ) (extent : BlockExtent) → i < p.len → is_valid_at p.validity i ≡ true → IsBlockOf p blocks i extent
    → get_or (column_of_packed p blocks).items i None ≡ Some (unwrap_or (patched_in p.patches i) (stored_in_block p extent i))
valid_item p blocks i extent range h at = get_or-table (packed_item p blocks) p.len i None range ∙ (item_by true p blocks i h ∙ rw (stored_there p blocks i extent at) refl)

-- nulls stand where they may
nullable : (v : Validity) (i : ℕ) → is_valid_at v i ≡ false → nullability_of v ≡ Nullable
nullable valid.NonNullable i h = cc
nullable valid.AllValid i h = refl
nullable valid.AllInvalid i h = refl
nullable (valid.Array bits) i h = refl

-- an item that is null, as a scalar
pub null_scalar : (p : BitPackedParts) (blocks : Blocks) (i : ℕ) → i < p.len → is_valid_at p.validity i ≡ false → record { dtype = Primitive p.ptype Nullable; value = None } ≡ scalar_in (column_of_packed p blocks) i
null_scalar p blocks i range h = rw (nullable p.validity i h, null_item p blocks i range h) refl

-- an item that is valid, as a scalar
pub valid_scalar : (p : BitPackedParts) (blocks : Blocks) (i : ℕ) (extent : BlockExtent) → i < p.len → is_valid_at p.validity i ≡ true → IsBlockOf p blocks i extent
    → record { dtype = Primitive p.ptype (nullability_of p.validity); value = Some (unwrap_or (patched_in p.patches i) (stored_in_block p extent i)) } ≡ scalar_in (column_of_packed p blocks) i
valid_scalar p blocks i extent range h at = rw (valid_item p blocks i extent range h at) refl
