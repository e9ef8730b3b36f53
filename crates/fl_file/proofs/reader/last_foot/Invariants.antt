use Rattle.std.proofs.Common.{◌≡◌, ◌-◌, ◌*◌, ◌≤◌, ℕ, List, Some, length}
use Rattle.fl_file.specs.FileReading.{last_foot}
use Rattle.fl_file.proofs.reader.last_foot.Given as goal

-- no foot ends at the multiples so far
abbrev pub invariant-loop-i : goal.invariant-loop-i
invariant-loop-i g l = record {
  contents : g.R.ReadAt.contents l.source ≡ g.R.ReadAt.contents l.fn.source;
  can_fail : g.R.ReadAt.can_fail l.source ≡ g.R.ReadAt.can_fail l.fn.source;
  searched : (bytes : List ℕ) → g.R.ReadAt.contents l.fn.source ≡ Some bytes → 64 * l.fn.count ≤ length bytes → last_foot bytes (l.fn.count - l.i) ≡ last_foot bytes l.fn.count;
}
