use Rattle.std.proofs.Common.{◌≡◌, map, drop}
use Rattle.fl_types.specs.Validities.{items_of}
use Rattle.fl_codec.specs.ForwardFill.{first_some}
use Rattle.fl_codec.specs.FoRColumns.{chunk_leasts, reading}
use Rattle.fl_codec.proofs.for_.first_least.Given as goal

-- no chunk so far has a least item
abbrev pub invariant-loop-k : goal.invariant-loop-k
invariant-loop-k g l =
    let leasts = chunk_leasts (reading l.order g.T.NativePType.PTYPE) (items_of l.validity (map g.T.Number.value l.items)) in
    first_some (drop l.k leasts) ≡ first_some leasts
