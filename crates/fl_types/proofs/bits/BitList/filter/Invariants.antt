use Rattle.std.proofs.Common.{◌≡◌, ◌*◌, ◌++◌, drop}
use Rattle.fl_types.specs.Bits.{kept}
use Rattle.fl_types.proofs.bits.BitList.filter.Given as goal

-- the bits of the words so far
abbrev pub invariant-loop-k : goal.invariant-loop-k
invariant-loop-k l = l.taken ++ kept (drop (64 * l.k) l.mask) (drop (64 * l.k) l.self) ≡ kept l.mask l.self
