use Rattle.std.proofs.Common.{◌≡◌, ◌+◌, ◌++◌, map}
use Rattle.fl_types.specs.Bits.{between}
use Rattle.fl_types.specs.Validities.{items_of}
use Rattle.fl_column.proofs.selection.push_range.Given as goal

-- the items so far
abbrev pub invariant-loop-k : goal.invariant-loop-k
invariant-loop-k g l =
    let value = g.T.Number.value in l.builder ≡ l.fn.builder ++ between l.start (l.start + l.k) (items_of l.validity (map value l.items))
