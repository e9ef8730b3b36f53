use Rattle.std.proofs.Common.{◌≡◌, Ok, Result, IsErrAnd}
use Rattle.fl_types.specs.declared.error.FastLanesError.{FastLanesError}
use Rattle.fl_types.specs.Refusals.{Answers, Refuses}
use Rattle.fl_serde.specs.Writing.{written}
use Rattle.fl_serde.proofs.ReadLaws.{answers_refused_there}
use Rattle.fl_serde.proofs.writing.+write.Goals as goal

-- an inner array was refused, which only a lack of memory does
inner_refused : {Y Z : Type 0} (r : Result Y FastLanesError) (y : Y) (z : Z) (e : FastLanesError) → IsErrAnd r (λ f. f ≡ e) → Refuses e (Ok z) → Answers (λ y. y) r (Ok y)
inner_refused r y z e is refused = answers_refused_there r (Ok y) (Ok z) e is refused (λ same. absurd cc)

pub returns-in-Primitive : goal.returns-in-Primitive
returns-in-Primitive t c = c.over_validity.ensures

pub returns-in-Bool : goal.returns-in-Bool
returns-in-Bool t c = c.over_validity-in-Bool.ensures

pub returns-in-Constant : goal.returns-in-Constant
returns-in-Constant t c = c.node_over.ensures

pub returns-in-Global : goal.returns-in-Global
returns-in-Global t c = c.over_packed.ensures

pub returns-in_ok-deltas-in-Delta : goal.returns-in_ok-deltas-in-Delta
returns-in_ok-deltas-in-Delta t c = c.over_deltas.ensures

pub returns-in_ok-boundaries-in-Blocked : goal.returns-in_ok-boundaries-in-Blocked
returns-in_ok-boundaries-in-Blocked t c = c.over_boundaries.ensures

pub returns-in-Global-references : goal.returns-in-Global-references
returns-in-Global-references t c = c.with_children.ensures

pub returns-in_ok-offsets-in-RLE : goal.returns-in_ok-offsets-in-RLE
returns-in_ok-offsets-in-RLE t c = c.with_children-in-RLE.ensures

pub returns-in_err-encoded-in-FoR : goal.returns-in_err-encoded-in-FoR
returns-in_err-encoded-in-FoR t c = inner_refused c.from_residual-in_err-encoded-in-FoR.result (written c.args.array.now) _ c.in_err-encoded-in-FoR.field-0.0 c.from_residual-in_err-encoded-in-FoR.ensures.1 c.in_err-encoded-in-FoR.ensures

pub returns-in_err-bases-in-Delta : goal.returns-in_err-bases-in-Delta
returns-in_err-bases-in-Delta t c = inner_refused c.from_residual-in_err-bases-in-Delta.result (written c.args.array.now) _ c.in_err-bases-in-Delta.field-0.0 c.from_residual-in_err-bases-in-Delta.ensures.1 c.in_err-bases-in-Delta.ensures

pub returns-in_err-deltas-in-Delta : goal.returns-in_err-deltas-in-Delta
returns-in_err-deltas-in-Delta t c = inner_refused c.from_residual-in_err-deltas-in-Delta.result (written c.args.array.now) _ c.in_err-deltas-in-Delta.field-0.0 c.from_residual-in_err-deltas-in-Delta.ensures.1 c.in_err-deltas-in-Delta.ensures

pub returns-in_err-values-in-RLE : goal.returns-in_err-values-in-RLE
returns-in_err-values-in-RLE t c = inner_refused c.from_residual-in_err-values-in-RLE.result (written c.args.array.now) _ c.in_err-values-in-RLE.field-0.0 c.from_residual-in_err-values-in-RLE.ensures.1 c.in_err-values-in-RLE.ensures

pub returns-in_err-indices-in-RLE : goal.returns-in_err-indices-in-RLE
returns-in_err-indices-in-RLE t c = inner_refused c.from_residual-in_err-indices-in-RLE.result (written c.args.array.now) _ c.in_err-indices-in-RLE.field-0.0 c.from_residual-in_err-indices-in-RLE.ensures.1 c.in_err-indices-in-RLE.ensures

pub returns-in_err-offsets-in-RLE : goal.returns-in_err-offsets-in-RLE
returns-in_err-offsets-in-RLE t c = inner_refused c.from_residual-in_err-offsets-in-RLE.result (written c.args.array.now) _ c.in_err-offsets-in-RLE.field-0.0 c.from_residual-in_err-offsets-in-RLE.ensures.1 c.in_err-offsets-in-RLE.ensures

pub returns-in_err-boundaries-in-Blocked : goal.returns-in_err-boundaries-in-Blocked
returns-in_err-boundaries-in-Blocked t c = inner_refused c.from_residual.result (written c.args.array.now) _ c.in_err-boundaries-in-Blocked.field-0.0 c.from_residual.ensures.1 c.in_err-boundaries-in-Blocked.ensures

pub returns-in_err-references-in-Blocked-references : goal.returns-in_err-references-in-Blocked-references
returns-in_err-references-in-Blocked-references t c = inner_refused c.from_residual-in_err-references-in-Blocked-references.result (written c.args.array.now) _ c.in_err-references-in-Blocked-references.field-0.0 c.from_residual-in_err-references-in-Blocked-references.ensures.1 c.in_err-references-in-Blocked-references.ensures

pub returns-in_ok-references-in-Blocked-references : goal.returns-in_ok-references-in-Blocked-references
returns-in_ok-references-in-Blocked-references t c = c.with_children-in-Blocked-references.ensures
