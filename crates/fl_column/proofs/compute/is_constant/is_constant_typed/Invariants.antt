use Rattle.std.proofs.Common.{◌≡◌, ℕ, ◌<◌, map, get_or, None, true}
use Rattle.fl_types.specs.Validities.{items_of}
use Rattle.fl_column.specs.Queries.{same_item}
use Rattle.fl_column.proofs.compute.is_constant.is_constant_typed.Given as goal

-- the items so far equal the first
abbrev pub invariant-loop-i : goal.invariant-loop-i
invariant-loop-i g l =
    let items = items_of l.validity (map g.T.Number.value l.items) in
    (k : ℕ) → k < l.i → same_item (get_or items 0 None) (get_or items k None) ≡ true
