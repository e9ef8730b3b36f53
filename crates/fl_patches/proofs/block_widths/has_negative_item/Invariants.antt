use Rattle.std.proofs.Common.{◌≡◌, ◌*◌, false, map, take}
use Rattle.std.specs.List.{list_any}
use Rattle.fl_types.specs.Validities.{items_of}
use Rattle.fl_patches.specs.Exceptions.{is_negative}
use Rattle.fl_patches.proofs.block_widths.has_negative_item.Given as goal

-- no item of the blocks so far is negative
abbrev pub invariant-loop-block : goal.invariant-loop-block
invariant-loop-block g l = list_any is_negative (take (1024 * l.block) (items_of l.validity (map g.T.Number.value l.items))) ≡ false
