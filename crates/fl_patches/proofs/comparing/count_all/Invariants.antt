use Rattle.std.proofs.Common.{◌≡◌, ◌+◌, ◌*◌, Some, map, min}
use Rattle.fl_types.specs.Bits.{between}
use Rattle.fl_patches.specs.Exceptions.{histogram_of}
use Rattle.fl_patches.proofs.comparing.count_all.Given as goal

-- the groups so far are counted
abbrev pub invariant-loop-k : goal.invariant-loop-k
invariant-loop-k g l = l.entries ≡ histogram_of g.T.NativePType.PTYPE (between l.start (min (l.start + 128 * l.k) l.end) (map (λ z. Some z) (map g.T.Number.value l.items)))
