use Rattle.std.proofs.Common.{◌≡◌, ℕ, ◌+◌, ◌<◌, List, length, get_or, drop, sum, arith}
use Rattle.std.proofs.lemmas.List.{drop_all}
use Rattle.std.proofs.lemmas.List.Sums.{sum_by-drop_more}
use Rattle.fl_patches.proofs.best_width.count_exceptions.Goals as goal

next_sum : (xs : List ℕ) (i : ℕ) → i < length xs → sum (drop i xs) ≡ get_or xs i 0 + sum (drop (i + 1) xs)
next_sum xs i h = sum_by-drop_more (λ x. x) xs i 0 h

pub overflow_add-count : goal.overflow_add-count
overflow_add-count c = omega (arith, next_sum c.args.histogram.now c.loop-i.i c.loop-i-test.true, c.loop-i.invariant)

pub loop-i-preserved : goal.loop-i-preserved
loop-i-preserved c = omega (arith, next_sum c.args.histogram.now c.loop-i.i c.loop-i-test.true, c.loop-i.invariant)

pub returns : goal.returns
returns c =
    let none = drop_all c.loop-i.i c.args.histogram.now c.loop-i-test.false in
    let all = rw none at c.loop-i.invariant in
    omega (arith, all)
