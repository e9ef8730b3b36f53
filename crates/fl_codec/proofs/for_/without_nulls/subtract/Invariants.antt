use Rattle.std.proofs.Common.{◌≡◌, ◌<◌, ◌-ℤ◌, ℕ, pos, get_or, length, map}
use Rattle.fl_types.specs.Integers.{wrap}
use Rattle.fl_codec.proofs.for_.without_nulls.subtract.Given as goal

-- the slots so far
abbrev pub invariant-loop-i : goal.invariant-loop-i
invariant-loop-i g l =
    let value = g.T.Number.value in record {
      done : (j : ℕ) → j < l.i → get_or (map value l.slots) j (pos 0) ≡ wrap g.T.NativePType.PTYPE (get_or (map value l.items) j (pos 0) -ℤ value l.reference);
      long : length l.slots ≡ length l.items;
    }
