use Rattle.std.proofs.Common.{◌≡◌, ◌<◌, ◌≤◌, ◌+◌, ◌-◌, ◌*◌, ◌/◌, ◌+ℤ◌, ℕ, pos, get_or, length, map, min}
use Rattle.fl_types.specs.Integers.{wrap}
use Rattle.fl_codec.proofs.for_.in_place.add_references_in_place.Given as goal

-- the sums of the chunks so far, and the integers that are left
abbrev pub invariant-loop-k : goal.invariant-loop-k
invariant-loop-k g l =
    let value = g.T.Number.value in
    let summed = min (1024 * l.k) (l.offset + length l.initial.values) - l.offset in record {
      done : (j : ℕ) → j < summed → get_or (map value l.values) j (pos 0) ≡ wrap g.T.NativePType.PTYPE (get_or (map value l.initial.values) j (pos 0) +ℤ get_or (map value l.references) ((l.offset + j) / 1024) (pos 0));
      left : (j : ℕ) → summed ≤ j → get_or (map value l.values) j (pos 0) ≡ get_or (map value l.initial.values) j (pos 0);
    }
