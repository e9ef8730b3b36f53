use Rattle.std.proofs.Common.{◌≡◌, ◌<◌, ℕ, cond, get_or, length, map, pos}
use Rattle.fl_types.specs.Bits.{bit_of_word}
use Rattle.fl_scan.proofs.folds.selecting.select.Given as goal

-- the integers so far
abbrev pub invariant-loop-j : goal.invariant-loop-j
invariant-loop-j g l = (length l.chosen ≡ 64) × ((k : ℕ) → k < l.j → get_or (map g.T.Number.value l.chosen) k (pos 0) ≡ cond (bit_of_word l.word k) (get_or (map g.T.Number.value l.items) k (pos 0)) (g.T.Number.value l.other))
