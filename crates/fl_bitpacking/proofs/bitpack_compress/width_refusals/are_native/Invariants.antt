use Rattle.std.proofs.Common.{◌≡◌, ◌==◌, ℕ, ◌<◌, true, get_or}
use Rattle.fl_bitpacking.proofs.bitpack_compress.width_refusals.are_native.Given as goal

-- each width so far is so many bits
abbrev pub invariant-loop-j : goal.invariant-loop-j
invariant-loop-j l = (k : ℕ) → k < l.j → (get_or l.widths k 0 == l.bits) ≡ true
