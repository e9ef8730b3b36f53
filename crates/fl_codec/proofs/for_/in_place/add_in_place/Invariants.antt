use Rattle.std.proofs.Common.{◌≡◌, ◌<◌, ◌≤◌, ◌+ℤ◌, ℕ, pos, get_or, length, map}
use Rattle.fl_types.specs.Integers.{wrap}
use Rattle.fl_codec.proofs.for_.in_place.add_in_place.Given as goal

-- the sums so far, and the integers that are left
abbrev pub invariant-loop-i : goal.invariant-loop-i
invariant-loop-i g l =
    let value = g.T.Number.value in record {
      done : (j : ℕ) → j < l.i → get_or (map value l.values) j (pos 0) ≡ wrap g.T.NativePType.PTYPE (get_or (map value l.initial.values) j (pos 0) +ℤ value l.reference);
      left : (j : ℕ) → l.i ≤ j → get_or (map value l.values) j (pos 0) ≡ get_or (map value l.initial.values) j (pos 0);
      long : length l.values ≡ length l.initial.values;
    }
