use Rattle.std.proofs.Common.{◌≡◌, ◌*◌, map, min, option_map}
use Rattle.fl_types.specs.Bits.{between}
use Rattle.fl_types.specs.Validities.{items_of}
use Rattle.fl_codec.specs.FoRColumns.{least_valid, turned}
use Rattle.fl_codec.proofs.for_.with_nulls.least_between.Given as goal

-- the least of the items of the words so far, each less the origin
abbrev pub invariant-loop-k : goal.invariant-loop-k
invariant-loop-k g l =
    let value = g.T.Number.value in
    option_map value l.least ≡ least_valid (between l.start (min (64 * l.k) l.end) (map (option_map (turned g.T.NativePType.PTYPE (value l.origin))) (items_of l.validity (map value l.items))))
