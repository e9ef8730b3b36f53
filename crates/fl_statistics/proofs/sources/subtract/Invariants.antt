use Rattle.std.proofs.Common.{◌≡◌, ◌<◌, ◌≤◌, ℕ, pos, get_or}
use Rattle.fl_statistics.specs.Differences.{difference, read_words}
use Rattle.fl_statistics.proofs.sources.subtract.Given as goal

-- the differences so far, and the words that are left
abbrev pub invariant-loop-q : goal.invariant-loop-q
invariant-loop-q g l =
    let t = g.T.NativePType.PTYPE in
    let pattern = g.T.Physical.FastLanes.pattern in record {
      done : (j : ℕ) → j < l.q → get_or (read_words pattern t l.words) j (pos 0) ≡ difference t (g.T.Number.value l.reference) (get_or (read_words pattern t l.initial.words) j (pos 0));
      left : (j : ℕ) → l.q ≤ j → get_or (read_words pattern t l.words) j (pos 0) ≡ get_or (read_words pattern t l.initial.words) j (pos 0);
    }
