use Rattle.std.proofs.Common.{◌≡◌, ◌<◌, ℕ, pos, Some, None, cond, get_or, map}
use Rattle.fl_types.specs.Bits.{bit_of_word}
use Rattle.fl_codec.specs.FoRColumns.{minus_reference}
use Rattle.fl_codec.proofs.for_.with_nulls.subtract_items.Given as goal

-- the slots so far
abbrev pub invariant-loop-j : goal.invariant-loop-j
invariant-loop-j g l =
    let value = g.T.Number.value in
    (i : ℕ) → i < l.j → get_or (map value l.slots) i (pos 0) ≡ minus_reference g.T.NativePType.PTYPE (value l.reference) (cond (bit_of_word l.word i) (Some (get_or (map value l.items) i (pos 0))) None)
