use Rattle.std.proofs.Common.{Bool, subst}
use Rattle.std.specs.Prelude.{Result}
use Rattle.fl_types.specs.declared.error.FastLanesError.{FastLanesError}
use Rattle.fl_types.specs.Refusals.{Answers}
use Rattle.fl_types.specs.Values.{scalar_parts}
use Rattle.fl_ops.proofs.ComparedLaws.{constant_over}
use Rattle.fl_ops.proofs.constancy.+is_constant.Goals as goal

pub returns-in-Some : goal.returns-in-Some
returns-in-Some t c =
    subst (λ (m : Result Bool FastLanesError). Answers {X = Bool} {Y = Bool} (λ b. b) c.is_constant.result m)
    (constant_over c.in-Some.encoded.now c.args.array.now (scalar_parts c.in-Some.field-0-1) c.in-Some.ensures.some.0 c.in-Some.ensures.some.1 (rw c.encoded-child.ensures.array at c.items_are_in_range.ensures))
    (rw c.encoded-child.ensures.array at c.is_constant.ensures)
