use Rattle.std.proofs.Common.{◌≡◌, ◌<◌, ◌≤◌, ◌+◌, ◌*◌, ℕ, pos, cond, get_or, length}
use Rattle.fl_types.specs.Validities.{is_valid_at}
use Rattle.fl_statistics.specs.Differences.{read_words}
use Rattle.fl_statistics.proofs.sources.clear_nulls.Given as goal

-- the words so far, and those that are left
abbrev pub invariant-loop-q : goal.invariant-loop-q
invariant-loop-q g l =
    let t = g.T.NativePType.PTYPE in
    let pattern = g.T.Physical.FastLanes.pattern in record {
      done : (j : ℕ) → j < l.q → get_or (read_words pattern t l.words) j (pos 0) ≡ cond (is_valid_at (g.S.BlockSource.parts l.source).validity (1024 * l.block + j)) (get_or (read_words pattern t l.initial.words) j (pos 0)) (pos 0);
      left : (j : ℕ) → l.q ≤ j → get_or (read_words pattern t l.words) j (pos 0) ≡ get_or (read_words pattern t l.initial.words) j (pos 0);
      whole : length l.words ≡ 1024;
    }
