use Rattle.std.proofs.Common.{◌≡◌, map, replicate}
use Rattle.fl_column.proofs.constant.compute.repeated_typed.Given as goal

-- the copies so far
abbrev pub invariant-loop-i : goal.invariant-loop-i
invariant-loop-i g l =
    let value = g.T.Number.value in
    map value l.items.items ≡ replicate l._i (value l.value)
