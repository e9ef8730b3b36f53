use Rattle.std.proofs.Common.{◌≡◌, map, take}
use Rattle.fl_types.specs.Integers.{pattern_of, read_as}
use Rattle.fl_column.proofs.reinterpret.reinterpret_all.Given as goal

-- the values so far
abbrev pub invariant-loop-item : goal.invariant-loop-item
invariant-loop-item g l = map g.T.Number.value l.read.items ≡ map (λ z. read_as g.T.NativePType.PTYPE (pattern_of g.S.NativePType.PTYPE z)) (map g.S.Number.value (take l.item-index l.items))
