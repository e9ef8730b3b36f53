use Rattle.std.proofs.Common.{Some, map}
use Rattle.fl_types.specs.Bits.{between}
use Rattle.fl_codec.specs.FoRColumns.{turned, valid_items}
use Rattle.fl_codec.proofs.FoRLaws.{IsLeast}
use Rattle.fl_codec.proofs.WithoutNulls.{all_valid}
use Rattle.fl_codec.proofs.for_.without_nulls.least_of.Given as goal

-- the least of the items so far, each less the origin
abbrev pub invariant-loop-i : goal.invariant-loop-i
invariant-loop-i g l =
    let value = g.T.Number.value in
    IsLeast (Some (value l.least)) (valid_items (between 0 l.i (all_valid (map (λ x. turned g.T.NativePType.PTYPE (value l.origin) (value x)) l.items))))
