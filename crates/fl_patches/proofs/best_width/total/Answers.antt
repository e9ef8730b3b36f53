use Rattle.std.proofs.Common.{◌≡◌, ℕ, ◌+◌, ◌<◌, List, length, get_or, take, sum, arith}
use Rattle.std.proofs.lemmas.List.{take_all}
use Rattle.std.proofs.lemmas.List.Sums.{sum_by_more}
use Rattle.fl_patches.proofs.best_width.total.Goals as goal

next_sum : (xs : List ℕ) (i : ℕ) → i < length xs → sum (take (i + 1) xs) ≡ sum (take i xs) + get_or xs i 0
next_sum xs i h = sum_by_more (λ x. x) xs i 0 h

pub loop-entry-preserved : goal.loop-entry-preserved
loop-entry-preserved c = record {
  value = omega (arith, next_sum c.args.histogram.now c.loop-entry.entry-index c.loop-entry-test.true, c.loop-entry.invariant.value);
  fits = omega (arith, c.type_inv.histogram c.loop-entry.entry-index, c.loop-entry.invariant.fits);
}

pub returns-clause-value : goal.returns-clause-value
returns-clause-value c =
    let all = take_all c.loop-entry.entry-index c.args.histogram.now c.loop-entry-test.false in
    rw all at c.loop-entry.invariant.value
