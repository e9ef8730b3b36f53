use Rattle.std.proofs.Common.{◌≡◌, pos, [], Some, None, cond, get_or, length, map, option_map, take}
use Rattle.fl_types.specs.Bits.{bit_of_word, tabulate}
use Rattle.fl_codec.specs.FoRColumns.{turned, valid_items}
use Rattle.fl_codec.proofs.for_.with_nulls.first_of_word.Given as goal

-- the items so far are null
abbrev pub invariant-loop-j : goal.invariant-loop-j
invariant-loop-j g l =
    let value = g.T.Number.value in
    valid_items (take l.j (tabulate (λ j. option_map (turned g.T.NativePType.PTYPE (value l.origin)) (cond (bit_of_word l.word j) (Some (get_or (map value l.items) j (pos 0))) None)) (length l.items))) ≡ []
