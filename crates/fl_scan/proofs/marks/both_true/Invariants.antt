use Rattle.std.proofs.Common.{◌≡◌, ◌&&◌, ℕ, ◌*◌, ◌<◌, false, get_or, length, min}
use Rattle.fl_scan.proofs.marks.both_true.Given as goal

-- the answers for the words so far
abbrev pub invariant-loop-k : goal.invariant-loop-k
invariant-loop-k l = record {
  long : length l.both ≡ min (64 * l.k) (length l.first);
  bits : (i : ℕ) → i < min (64 * l.k) (length l.first) → get_or l.both i false ≡ (get_or l.first i false && get_or l.second i false);
}
