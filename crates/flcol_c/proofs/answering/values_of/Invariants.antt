use Rattle.std.proofs.Common.{◌≡◌, map, take}
use Rattle.std.specs.Prelude.{All}
use Rattle.fl_types.specs.Values.{integer_of, ptype_of_value}
use Rattle.flcol_c.proofs.answering.values_of.Given as goal

-- the values so far
abbrev pub invariant-loop-value : goal.invariant-loop-value
invariant-loop-value g l = (map integer_of l.values.items ≡ map g.T.Number.value (take l.value-index l.list)) × All (λ value. ptype_of_value value ≡ g.T.NativePType.PTYPE) l.values.items
