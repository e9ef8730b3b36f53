use Rattle.std.proofs.Common.{◌≡◌, Some, sym, ap, ◌∙◌}
use Rattle.fl_bitpacking.specs.Parts.{parts_of}
use Rattle.fl_bitpacking.specs.Refusals.{blocked_refusal}
use Rattle.fl_array.specs.Trees.{column}
use Rattle.fl_array.proofs.BlockedLaws.{early_column}
use Rattle.fl_array.proofs.Refused.{Refuses_same}
use Rattle.fl_array.proofs.bitpacking.accept_decoded.Goals as goal

pub returns-in-Some-blocked_refusal : goal.returns-in-Some-blocked_refusal
returns-in-Some-blocked_refusal c =
    let parts = parts_of c.args.parts.now in
    let same = early_column parts (column c.args.boundaries.now) c.in_ok-plain.plain (sym c.refusal_before_boundaries.ensures ∙ c.in_default.is) (sym c.in_ok-plain.ensures) in
    let refused : blocked_refusal parts (column c.args.boundaries.now) ≡ Some c.in-Some-blocked_refusal.refusal = ap (blocked_refusal parts) (sym same) ∙ (sym c.blocked_refusal.ensures ∙ c.in-Some-blocked_refusal.is) in
    rw refused (Refuses_same _ c.in-Some-blocked_refusal.refusal)
