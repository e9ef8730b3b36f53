use Rattle.std.proofs.Common.{◌≡◌, ◌-◌, ◌++◌, length, replicate, false}
use Rattle.fl_codec.proofs.rle.padded_bits.Given as goal

-- the bits, and one that is not set for each position so far
abbrev pub invariant-loop-i : goal.invariant-loop-i
invariant-loop-i l = l.padded ≡ l.fn.bits ++ replicate (l._i - length l.fn.bits) false
