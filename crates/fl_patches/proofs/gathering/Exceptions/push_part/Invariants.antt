use Rattle.std.proofs.Common.{◌≡◌, ◌+◌, ◌*◌, ◌++◌, ℤ, List, Option, length, map, min}
use Rattle.fl_types.specs.Bits.{between}
use Rattle.fl_types.specs.Validities.{items_of}
use Rattle.fl_patches.specs.Exceptions.{exception}
use Rattle.fl_patches.specs.PatchParts.{AreGathered}
use Rattle.fl_patches.proofs.gathering.Exceptions.push_part.Given as goal

-- the exceptions of the groups so far are behind those that were there
abbrev pub invariant-loop-k : goal.invariant-loop-k
invariant-loop-k g l = (before : List (Option ℤ)) → length before ≡ l.start → AreGathered l.initial.self.places.items (map g.T.Number.value l.initial.self.values.items) before
    → AreGathered l.self.places.items (map g.T.Number.value l.self.values.items) (before ++ map (exception g.T.NativePType.PTYPE l.width) (between l.start (min (l.start + 64 * l.k) l.end) (items_of l.validity (map g.T.Number.value l.items))))
