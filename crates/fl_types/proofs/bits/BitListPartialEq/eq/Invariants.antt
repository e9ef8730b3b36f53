use Rattle.std.proofs.Common.{◌≡◌, ℕ, ◌*◌, ◌<◌, length, get_or, false}
use Rattle.fl_types.proofs.bits.BitListPartialEq.eq.Given as goal

-- the words so far are equal
abbrev pub invariant-loop-k : goal.invariant-loop-k
invariant-loop-k l = record {
  same_length : length l.self ≡ length l.other;
  same : (i : ℕ) → i < 64 * l.k → get_or l.self i false ≡ get_or l.other i false;
}
