use Rattle.std.proofs.Common.{take}
use Rattle.fl_patches.specs.PatchMaps.{AreFound, ranks_at}
use Rattle.fl_column.specs.Numbers.{numbers_by}
use Rattle.fl_patches.proofs.selection.find_at.Given as goal

-- the patches of the positions so far
abbrev pub invariant-loop-place : goal.invariant-loop-place
invariant-loop-place g l = AreFound l.found.places.items l.found.ranks.items (ranks_at l.offset (numbers_by g.I.Number.value l.indices) (take l.place l.positions))
