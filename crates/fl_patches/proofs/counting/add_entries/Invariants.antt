use Rattle.std.proofs.Common.{◌≡◌, ◌+◌, ◌<◌, ◌≤◌, ℕ, get_or}
use Rattle.fl_patches.proofs.counting.add_entries.Given as goal

-- the entries so far are sums, and the others as they were
abbrev pub invariant-loop-b : goal.invariant-loop-b
invariant-loop-b l = record {
  sums : (k : ℕ) → k < l.b → get_or l.entries k 0 ≡ get_or l.initial.entries k 0 + get_or l.second k 0 + get_or l.third k 0 + get_or l.fourth k 0;
  rest : (k : ℕ) → l.b ≤ k → get_or l.entries k 0 ≡ get_or l.initial.entries k 0;
}
