use Rattle.std.proofs.Common.{◌≡◌, map, take, option_map, option_and_then}
use Rattle.fl_column.proofs.constant.compute.spread_typed.Given as goal

-- the items so far
abbrev pub invariant-loop-position : goal.invariant-loop-position
invariant-loop-position g l =
    let value = g.T.Number.value in l.taken ≡ map (option_and_then (λ i. option_map value l.value)) (take l.position-index l.positions)
