use Rattle.std.proofs.Common.{ap, sym, subst, Result}
use Rattle.fl_types.specs.declared.error.FastLanesError.{FastLanesError}
use Rattle.fl_types.specs.Refusals.{Answers}
use Rattle.fl_codec.specs.Parts.{OneReference, global_parts, subtract_min}
use Rattle.fl_codec.proofs.for_.encode_by_least.Goals as goal

pub returns-in-None : goal.returns-in-None
returns-in-None g c = ap (subtract_min c.args.array.now) (sym c.in-None.ensures)

pub returns-in-Some : goal.returns-in-Some
returns-in-Some g c = subst (λ (m : Result OneReference FastLanesError). Answers global_parts c.subtract_reference.result m) (ap (subtract_min c.args.array.now) c.in-Some.ensures) c.subtract_reference.ensures
