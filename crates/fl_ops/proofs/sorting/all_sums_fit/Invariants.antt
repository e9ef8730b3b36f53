use Rattle.std.proofs.Common.{◌≡◌, take, true}
use Rattle.std.specs.List.{list_all}
use Rattle.fl_ops.specs.Sums.{sum_fits}
use Rattle.fl_ops.proofs.sorting.all_sums_fit.Given as goal

-- the sums so far fit
abbrev pub invariant-loop-item : goal.invariant-loop-item
invariant-loop-item g l = list_all (λ x. sum_fits g.T.NativePType.PTYPE (g.T.Number.value l.reference) (g.T.Number.value x)) (take l.item-index l.items) ≡ true
