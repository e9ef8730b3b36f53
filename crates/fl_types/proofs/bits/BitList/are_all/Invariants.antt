use Rattle.std.proofs.Common.{◌≡◌, ℕ, ◌*◌, ◌<◌, length, get_or, false}
use Rattle.fl_types.proofs.bits.BitList.are_all.Given as goal

-- the bits so far are this one
abbrev pub invariant-loop-k : goal.invariant-loop-k
invariant-loop-k l = (i : ℕ) → i < 64 * l.k → i < length l.self → get_or l.self i false ≡ l.bit
