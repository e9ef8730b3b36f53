use Rattle.std.proofs.Common.{◌≡◌, ◌+◌, ◌<◌, ◌≤◌, ℕ, get_or}
use Rattle.fl_statistics.proofs.widths.add_entries.Given as goal

-- the entries so far are sums, and the others are as they were
abbrev pub invariant-loop-k : goal.invariant-loop-k
invariant-loop-k l = record {
  sums : (j : ℕ) → j < l.k → get_or l.entries j 0 ≡ get_or l.fn.entries j 0 + get_or l.others j 0;
  rest : (j : ℕ) → l.k ≤ j → get_or l.entries j 0 ≡ get_or l.fn.entries j 0;
}
