use Rattle.std.proofs.Common.{◌≡◌, ◌+◌, ◌*◌, ◌++◌, min}
use Rattle.fl_types.specs.Bits.{between}
use Rattle.fl_ops.proofs.by_blocks.ranges.push_bits.Given as goal

-- the bits of the words so far
abbrev pub invariant-loop-k : goal.invariant-loop-k
invariant-loop-k l = l.bits ≡ l.fn.bits ++ between l.start (l.start + min (64 * l.k) l.count) l.valid
