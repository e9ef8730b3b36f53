use Rattle.std.proofs.Common.{◌≡◌, ℕ, ◌<◌, false, get_or, nat_lt}
use Rattle.fl_bitpacking.proofs.bitpack_compress.width_refusals.has_wider.Given as goal

-- no width so far is above the bits
abbrev pub invariant-loop-j : goal.invariant-loop-j
invariant-loop-j l = (k : ℕ) → k < l.j → nat_lt l.bits (get_or l.widths k 0) ≡ false
