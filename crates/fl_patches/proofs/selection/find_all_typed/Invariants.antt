use Rattle.fl_column.specs.Numbers.{numbers_by}
use Rattle.fl_patches.specs.PatchMaps.{AreFoundTo}
use Rattle.fl_patches.proofs.selection.find_all_typed.Given as goal

-- the patches so far
abbrev pub invariant-loop-rank : goal.invariant-loop-rank
invariant-loop-rank g l = AreFoundTo l.offset (numbers_by g.I.Number.value l.indices) l.rank l.found.places.items l.found.ranks.items
