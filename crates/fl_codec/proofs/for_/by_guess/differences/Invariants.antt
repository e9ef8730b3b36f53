use Rattle.std.proofs.Common.{◌≡◌, ◌*◌, None, get_or, map, min, option_map}
use Rattle.fl_types.specs.Bits.{between, tabulate}
use Rattle.fl_types.specs.Validities.{items_of}
use Rattle.fl_codec.specs.FoRColumns.{least_valid, minus_reference, turned}
use Rattle.fl_codec.proofs.for_.by_guess.differences.Given as goal

-- the least item and the slots of the chunks so far
abbrev pub invariant-loop-k : goal.invariant-loop-k
invariant-loop-k g l =
    let value = g.T.Number.value in
    let items = items_of l.validity (map value l.items) in record {
      least : option_map value l.least ≡ least_valid (map (option_map (turned g.T.NativePType.PTYPE (value l.origin))) (between 0 (min (1024 * l.k) l.len) items));
      slots : map value l.slots.items ≡ tabulate (λ i. minus_reference g.T.NativePType.PTYPE (value l.guess) (get_or items i None)) (min (1024 * l.k) l.len);
    }
