use Rattle.std.proofs.Common.{◌≡◌, ℕ, ◌<◌, false}
use Rattle.fl_types.specs.Validities.{is_valid_at}
use Rattle.fl_codec.proofs.for_.are_nulls.Given as goal

-- the items so far are null
abbrev pub invariant-loop-i : goal.invariant-loop-i
invariant-loop-i l = (k : ℕ) → k < l.i → is_valid_at l.array.validity k ≡ false
