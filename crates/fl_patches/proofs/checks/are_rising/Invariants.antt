use Rattle.std.proofs.Common.{◌≡◌, ℕ, ◌+◌, ◌<◌, get_or, nat_lt, true}
use Rattle.fl_column.specs.Numbers.{numbers_by}
use Rattle.fl_patches.proofs.checks.are_rising.Given as goal

-- the numbers so far rise
abbrev pub invariant-loop-i : goal.invariant-loop-i
invariant-loop-i g l =
    let numbers = numbers_by g.I.Number.value l.indices in
    (k : ℕ) → k + 1 < l.i → nat_lt (get_or numbers k 0) (get_or numbers (k + 1) 0) ≡ true
