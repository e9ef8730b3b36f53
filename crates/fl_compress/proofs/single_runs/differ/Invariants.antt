use Rattle.std.proofs.Common.{◌≡◌, ℕ, ◌+◌, ◌<◌, false, map, get_or, pos}
use Rattle.std.specs.Ordering.{int_eq}
use Rattle.fl_compress.proofs.single_runs.differ.Given as goal

-- those so far differ
abbrev pub invariant-loop-i : goal.invariant-loop-i
invariant-loop-i g l =
    let slots = map g.T.Number.value l.items in
    (k : ℕ) → k + 1 < l.i → int_eq (get_or slots (k + 1) (pos 0)) (get_or slots k (pos 0)) ≡ false
