use Rattle.std.proofs.Common.{◌≡◌, map, take, true}
use Rattle.std.specs.List.{list_all}
use Rattle.fl_types.specs.Integers.{fits}
use Rattle.fl_column.proofs.laws.typed_is_in_range.Given as goal

-- the slots so far are in range
abbrev pub invariant-loop-item : goal.invariant-loop-item
invariant-loop-item g l = list_all (fits g.T.NativePType.PTYPE) (map g.T.Number.value (take l.item-index l.items)) ≡ true
