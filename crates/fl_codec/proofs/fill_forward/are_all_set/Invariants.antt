use Rattle.std.proofs.Common.{◌≡◌, ℕ, ◌+◌, ◌*◌, ◌<◌, ◌≤◌, true, false, length, get_or}
use Rattle.fl_codec.proofs.fill_forward.are_all_set.Given as goal

-- the words so far
abbrev pub invariant-loop-j : goal.invariant-loop-j
invariant-loop-j l = record {
  set : (i : ℕ) → 1024 * l.k ≤ i → i < 64 * (16 * l.k + l.j) → i < length l.bits → get_or l.bits i false ≡ true;
}
