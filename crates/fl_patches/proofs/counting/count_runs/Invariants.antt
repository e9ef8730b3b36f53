use Rattle.std.proofs.Common.{◌≡◌, ◌+◌}
use Rattle.fl_types.specs.Bits.{between}
use Rattle.fl_patches.specs.Exceptions.{histogram_of}
use Rattle.fl_patches.proofs.counting.count_runs.Given as goal

-- as many items of each run are counted
abbrev pub invariant-loop-i : goal.invariant-loop-i
invariant-loop-i g l = record {
  first : l.first ≡ histogram_of g.S.CountedItems.PTYPE (between l.start (l.start + l.i) (g.S.CountedItems.items l.items));
  second : l.second ≡ histogram_of g.S.CountedItems.PTYPE (between l.at_second (l.at_second + l.i) (g.S.CountedItems.items l.items));
  third : l.third ≡ histogram_of g.S.CountedItems.PTYPE (between l.at_third (l.at_third + l.i) (g.S.CountedItems.items l.items));
  fourth : l.fourth ≡ histogram_of g.S.CountedItems.PTYPE (between l.at_fourth (l.at_fourth + l.i) (g.S.CountedItems.items l.items));
}
