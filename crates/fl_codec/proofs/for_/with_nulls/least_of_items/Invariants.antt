use Rattle.std.proofs.Common.{◌≡◌, ◌≤◌, ◌∷◌, pos, Some, None, cond, get_or, length, map, option_map}
use Rattle.fl_types.specs.Bits.{bit_of_word, tabulate}
use Rattle.fl_codec.specs.FoRColumns.{least_valid, turned}
use Rattle.fl_codec.proofs.for_.with_nulls.least_of_items.Given as goal

-- the least of the seed and of the items so far
abbrev pub invariant-loop-j : goal.invariant-loop-j
invariant-loop-j g l =
    let value = g.T.Number.value in record {
      least : Some (value l.least) ≡ least_valid (Some (value l.seed) ∷ tabulate (λ j. option_map (turned g.T.NativePType.PTYPE (value l.origin)) (cond (bit_of_word l.word j) (Some (get_or (map value l.items) j (pos 0))) None)) l.j);
      within : l.j ≤ length l.items;
    }
