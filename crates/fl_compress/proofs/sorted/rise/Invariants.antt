use Rattle.std.proofs.Common.{ℕ, ◌+◌, ◌<◌, map, get_or, pos}
use Rattle.std.specs.Prelude.{◌≤ℤ◌}
use Rattle.fl_compress.proofs.sorted.rise.Given as goal

-- those so far do not fall
abbrev pub invariant-loop-i : goal.invariant-loop-i
invariant-loop-i g l =
    let slots = map g.T.Number.value l.items in
    (k : ℕ) → k + 1 < l.i → get_or slots k (pos 0) ≤ℤ get_or slots (k + 1) (pos 0)
