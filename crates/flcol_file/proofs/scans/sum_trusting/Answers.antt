use Rattle.std.proofs.Common.{◌≡◌, ◌≤◌, ◌+◌, ◌∙◌, ℕ, List, ap, arith, pos, refl, subst, sym, take, to_z, rules}
use Rattle.std.specs.Prelude.{FitsSigned, ◌+ℤ◌}
use Rattle.std.specs.Int.{w128}
use Rattle.std.proofs.lemmas.Int.{to_z-of_z}
use Rattle.fl_column.specs.Columns.{Column}
use Rattle.fl_file.specs.Statistics.{total}
use Rattle.flcol_file.specs.Chunked.{SumFits, valid_in}
use Rattle.flcol_file.proofs.ChunkSteps.{added, known_at, next_sum, not_added, sums_fit, sums_more, whole}
use Rattle.flcol_file.proofs.scans.sum_trusting.Goals as goal

nothing_fits : (columns : List Column) (j : ℕ) → j ≤ 0 → FitsSigned w128 (pos 0) → SumFits columns j
nothing_fits columns j le zero = let is : j ≡ 0 = omega arith in subst (λ n. SumFits columns n) (sym is) zero

pub loop-k-init : goal.loop-k-init
loop-k-init g c = let zero : FitsSigned w128 (pos 0) = search rules in λ (columns : List Column) holds. (refl, λ j le. nothing_fits columns j le zero)

pub loop-k-preserved : goal.loop-k-preserved
loop-k-preserved g c =
    let before = to_z w128 c.loop-k.sum-bits in
    let narrow : FitsSigned w128 c.statistics.result.sum = search rules in
    let sum = rw (to_z-of_z w128 c.statistics.result.sum narrow) at c.checked_add.ensures in
    let next = added c.checked_add.result _ (before +ℤ c.statistics.result.sum) c.in-Some.next sum c.in-Some.is in
    let fit : FitsSigned w128 c.in-Some.next = subst (λ z. FitsSigned w128 z) (sym next.1) next.0 in
    λ (columns : List Column) holds.
    let known = g.C.ColumnChunks.facts_hold c.args.chunks.now columns holds in
    let so_far = c.loop-k.invariant columns holds in
    let more = next_sum columns c.loop-k.k before c.in-Some.next c.statistics.result (known_at (g.C.ColumnChunks.facts c.args.chunks.now) columns c.loop-k.k c.statistics.result known c.statistics.ensures) so_far.0 next.1 in
    (to_z-of_z w128 c.in-Some.next fit ∙ more, sums_more columns c.loop-k.k c.in-Some.next so_far.1 fit more)

pub returns-in-None : goal.returns-in-None
returns-in-None g c =
    let before = to_z w128 c.loop-k.sum-bits in
    let narrow : FitsSigned w128 c.statistics.result.sum = search rules in
    let sum = rw (to_z-of_z w128 c.statistics.result.sum narrow) at c.checked_add.ensures in
    let beyond = not_added c.checked_add.result _ (before +ℤ c.statistics.result.sum) sum c.in-None.is in
    λ (columns : List Column) holds.
    let known = g.C.ColumnChunks.facts_hold c.args.chunks.now columns holds in
    let so_far = c.loop-k.invariant columns holds in
    let more = next_sum columns c.loop-k.k before (before +ℤ c.statistics.result.sum) c.statistics.result (known_at (g.C.ColumnChunks.facts c.args.chunks.now) columns c.loop-k.k c.statistics.result known c.statistics.ensures) so_far.0 refl in
    (refl, (c.loop-k.k + 1, λ fits. beyond (subst (λ z. FitsSigned w128 z) (sym more) fits)))

pub returns : goal.returns
returns g c = λ (columns : List Column) holds.
    let facts = g.C.ColumnChunks.facts c.args.chunks.now in
    let known = g.C.ColumnChunks.facts_hold c.args.chunks.now columns holds in
    let so_far = c.loop-k.invariant columns holds in
    (so_far.0 ∙ ap (λ cs. total (valid_in cs)) (whole facts columns c.loop-k.k known (omega arith)), λ k. sums_fit facts columns c.loop-k.k k known (omega arith) so_far.1)
