use Rattle.std.proofs.Common.{◌≡◌, map, take, true}
use Rattle.std.specs.List.{list_all}
use Rattle.fl_types.specs.Integers.{fits}
use Rattle.fl_types.specs.Validities.{items_of}
use Rattle.fl_column.specs.Columns.{option_all}
use Rattle.fl_column.proofs.casting.items_fit.Given as goal

-- the items so far fit
abbrev pub invariant-loop-i : goal.invariant-loop-i
invariant-loop-i g l = list_all (option_all (fits g.T.NativePType.PTYPE)) (take l.i (items_of l.validity (map g.S.Number.value l.items))) ≡ true
