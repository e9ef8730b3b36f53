-- When packed integers are restored.
use Rattle.std.specs.Prelude.{◌≡◌, ◌⊎◌, ◌/◌, ◌^◌, ◌<◌, ℕ, pos, true, Option, Some, None, length, slice_index_or}
use Rattle.fl_types.specs.Integers.{pattern_of}
use Rattle.fl_types.specs.Validities.{is_valid_at}
use Rattle.fl_column.specs.Columns.{PrimitiveParts}
use Rattle.fl_patches.specs.PatchMaps.{PatchesParts, patched_in}
use Rattle.fl_bitpacking.specs.Blocks.{Blocks}

-- Each valid item has a patch of its own value, or no patch and no more bits than its block's width.
pub record AreKept (p : PrimitiveParts) (patches : Option PatchesParts) (blocks : Blocks) : Type 0 where
  pub each : (i : ℕ) → i < length p.slots → is_valid_at p.validity i ≡ true
      → (patched_in patches i ≡ Some (slice_index_or p.slots i (pos 0))) ⊎ ((patched_in patches i ≡ None) × (pattern_of p.ptype (slice_index_or p.slots i (pos 0)) < 2 ^ blocks.width (i / 1024)))
