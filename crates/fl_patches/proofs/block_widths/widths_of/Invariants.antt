use Rattle.std.proofs.Common.{◌≡◌, ◌+◌, ◌*◌, false, length, map, take}
use Rattle.std.specs.List.{list_any}
use Rattle.fl_types.specs.Integers.{bits_of_type}
use Rattle.fl_types.specs.Validities.{items_of}
use Rattle.fl_patches.specs.Costs.{first_widths}
use Rattle.fl_patches.specs.Exceptions.{is_negative}
use Rattle.fl_patches.proofs.LeastTotals.{exceptions_to}
use Rattle.fl_patches.proofs.block_widths.widths_of.Given as goal

-- the best widths of the blocks so far, their exceptions, and that no item is negative
abbrev pub invariant-loop-block : goal.invariant-loop-block
invariant-loop-block g l = record {
  best : l.widths.items ≡ first_widths g.T.NativePType.PTYPE (items_of l.validity (map g.T.Number.value l.items)) l.block;
  counted : l.total ≡ exceptions_to g.T.NativePType.PTYPE (items_of l.validity (map g.T.Number.value l.items)) l.block;
  none : list_any is_negative (take (1024 * l.block) (items_of l.validity (map g.T.Number.value l.items))) ≡ false;
  room : length l.entries ≡ bits_of_type g.T.NativePType.PTYPE + 1;
}
