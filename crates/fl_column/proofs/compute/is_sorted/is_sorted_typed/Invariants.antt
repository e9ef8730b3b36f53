use Rattle.std.proofs.Common.{◌≡◌, ℕ, ◌+◌, ◌<◌, map, get_or, None, true}
use Rattle.fl_types.specs.Validities.{items_of}
use Rattle.fl_column.specs.Queries.{in_order}
use Rattle.fl_column.proofs.compute.is_sorted.is_sorted_typed.Given as goal

-- the pairs so far are in order
abbrev pub invariant-loop-i : goal.invariant-loop-i
invariant-loop-i g l =
    let items = items_of l.validity (map g.T.Number.value l.items) in
    (k : ℕ) → k + 1 < l.i → in_order l.fn.strict (get_or items k None) (get_or items (k + 1) None) ≡ true
