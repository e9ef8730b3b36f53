-- Items of packed blocks that a mask keeps.
use Rattle.std.specs.Prelude.{◌≡◌, ◌+◌, ◌-◌, ◌*◌, ◌++◌, ℕ, ℤ, List, Option, Some, None, drop, map, min, unwrap_or}
use Rattle.std.specs.Option.{option_copied}
use Rattle.fl_types.specs.declared.dtype.PType.{PType}
use Rattle.fl_types.specs.Bits.{tabulate}
use Rattle.fl_column.specs.Operations.{kept}
use Rattle.fl_patches.specs.PatchMaps.{PatchesParts, patched_in, patches_before}
use Rattle.fl_bitpacking.specs.Blocks.{blocks_of, item_of_blocks}
use Rattle.fl_bitpacking.specs.declared.compute.filter.Filtering.{Filtering}

-- how many patches are before a position, if there are patches
abbrev pub count_before : ℕ → Option PatchesParts → ℕ
count_before i None = 0
count_before i (Some p) = patches_before i p

-- how many items are in the blocks before block j
abbrev pub items_before : Filtering → ℕ → ℕ
items_before f j = min (1024 * j) (f.blocks.offset + f.blocks.len) - f.blocks.offset

-- what stands at item i of a column of this type over these bytes, also under a null: its patch, else what is stored
abbrev pub slot_of : PType → List ℕ → Filtering → ℕ → ℤ
slot_of ptype bytes f i = unwrap_or (patched_in (option_copied f.patches) i) (item_of_blocks ptype (blocks_of f.blocks.widths) bytes (f.blocks.offset + i))

-- what stands at each item
abbrev pub slots_of : PType → List ℕ → Filtering → List ℤ
slots_of ptype bytes f = tabulate (slot_of ptype bytes f) f.blocks.len

-- the integers are those that the mask keeps of the first `count` items: with those of the others they are all that it keeps
abbrev pub AreKept : {T : Type 0} → (T → ℤ) → PType → List ℕ → Filtering → ℕ → List T → Type 0
AreKept value ptype bytes f count taken = map value taken ++ kept (drop count f.bits.now) (drop count (slots_of ptype bytes f)) ≡ kept f.bits.now (slots_of ptype bytes f)
