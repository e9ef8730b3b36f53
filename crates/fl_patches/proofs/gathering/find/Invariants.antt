use Rattle.std.proofs.Common.{map}
use Rattle.fl_types.specs.Validities.{items_of}
use Rattle.fl_patches.specs.Exceptions.{exceptions_of}
use Rattle.fl_patches.specs.PatchParts.{HasBlocks}
use Rattle.fl_patches.specs.Widths.{width_at}
use Rattle.fl_patches.proofs.gathering.find.Given as goal

-- the exceptions of the blocks so far, and how many stand before each
abbrev pub invariant-loop-block : goal.invariant-loop-block
invariant-loop-block g l = HasBlocks l.found.found.places.items (map g.T.Number.value l.found.found.values.items) l.found.offsets.items (exceptions_of g.T.NativePType.PTYPE (width_at l.widths) (items_of l.validity (map g.T.Number.value l.items))) l.block
