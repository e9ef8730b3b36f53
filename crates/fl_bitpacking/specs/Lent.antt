-- Items that are lent from a scratch block.
use Rattle.std.specs.Prelude.{◌-◌, ℤ, List, map, take, drop, Option, option_map}
use Rattle.fl_bitpacking.specs.declared.unpack_iter.unpacked_items.UnpackedItems.{UnpackedItems}

-- the items that are lent, if any are
abbrev pub items_lent : {T : Type 0} → UnpackedItems T → Option (List T)
items_lent l = option_map (λ s. take (s.to - s.from) (drop s.from l.block.now)) l.span

-- the same as integers
abbrev pub integers_lent : {T : Type 0} → (T → ℤ) → UnpackedItems T → Option (List ℤ)
integers_lent value l = option_map (map value) (items_lent l)
