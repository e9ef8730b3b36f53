use Rattle.std.proofs.Common.{◌≡◌, ◌+◌, ◌*◌, map, min}
use Rattle.fl_types.specs.Bits.{between}
use Rattle.fl_types.specs.Validities.{masked}
use Rattle.fl_patches.specs.Exceptions.{histogram_of}
use Rattle.fl_patches.proofs.masking.count_all.Given as goal

-- the words so far are counted
abbrev pub invariant-loop-k : goal.invariant-loop-k
invariant-loop-k g l = l.entries ≡ histogram_of g.T.NativePType.PTYPE (between l.start (min (l.start + 64 * l.k) l.end) (masked l.bits (map g.T.Number.value l.items)))
