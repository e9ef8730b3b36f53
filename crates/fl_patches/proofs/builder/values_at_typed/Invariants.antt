use Rattle.std.proofs.Common.{◌≡◌, map, take, get_or, pos}
use Rattle.fl_patches.proofs.builder.values_at_typed.Given as goal

-- the values so far
abbrev pub invariant-loop-rank : goal.invariant-loop-rank
invariant-loop-rank g l = map g.T.Number.value l.picked.items ≡ map (λ rank. get_or l.values.slots rank (pos 0)) (take l.rank-index l.ranks)
