use Rattle.std.proofs.Common.{◌≡◌, ◌<◌, ◌+◌, ◌*◌, ℕ, pos, None, get_or, map, min}
use Rattle.fl_types.specs.Validities.{items_of}
use Rattle.fl_codec.specs.FoRColumns.{minus_reference}
use Rattle.fl_codec.proofs.for_.with_nulls.subtract.Given as goal

-- the slots of the words so far
abbrev pub invariant-loop-k : goal.invariant-loop-k
invariant-loop-k g l =
    let value = g.T.Number.value in
    (j : ℕ) → j < min (64 * l.k) l.len → get_or (map value l.slots) j (pos 0) ≡ minus_reference g.T.NativePType.PTYPE (value l.reference) (get_or (items_of l.validity (map value l.items)) (l.start + j) None)
