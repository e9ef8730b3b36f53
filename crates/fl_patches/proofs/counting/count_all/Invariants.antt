use Rattle.std.proofs.Common.{◌≡◌}
use Rattle.fl_types.specs.Bits.{between}
use Rattle.fl_patches.specs.Exceptions.{histogram_of}
use Rattle.fl_patches.proofs.counting.count_all.Given as goal

-- the items so far are counted
abbrev pub invariant-loop-i : goal.invariant-loop-i
invariant-loop-i g l = l.entries ≡ histogram_of g.S.CountedItems.PTYPE (between l.start l.i (g.S.CountedItems.items l.items))
