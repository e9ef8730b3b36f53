use Rattle.std.proofs.Common.{◌∙◌, ap, refl}
use Rattle.fl_types.specs.declared.error.FastLanesError.TheVariants.{OutOfMemory}
use Rattle.fl_types.proofs.Refused.{no_memory_there}
use Rattle.fl_bitpacking.specs.Casts.{cast_validity}
use Rattle.fl_patches.proofs.Parts.{ok_same}
use Rattle.fl_array.proofs.InPlace.{cast_accepted, cast_made, refused_over}
use Rattle.fl_array.proofs.delta.DeltaArray.cast_with.Goals as goal

pub returns-in_err-validity : goal.returns-in_err-validity
returns-in_err-validity c = refused_over (λ a. a) _ _ c.from_residual.result c.in_err-validity.field-0.0 c.from_residual.ensures.1 c.in_err-validity.ensures

pub returns-in_err-bases : goal.returns-in_err-bases
returns-in_err-bases c = no_memory_there (λ a. a) c.from_residual-in_err-bases.result _ OutOfMemory c.from_residual-in_err-bases.ensures.1 refl

pub returns-in_err-deltas : goal.returns-in_err-deltas
returns-in_err-deltas c = no_memory_there (λ a. a) c.from_residual-in_err-deltas.result _ OutOfMemory c.from_residual-in_err-deltas.ensures.1 refl

pub invariant_of-result : goal.invariant_of-result
invariant_of-result c =
    let validity = ok_same _ _ c.in_ok-validity.ensures ∙ ap (cast_validity c.args.nullability) c.validity.ensures in
    cast_accepted c.args.nullability c.args.self.now c.in_ok-bases.bases.value c.in_ok-deltas.deltas.value c.in_ok-validity.validity _ _ c.prove_well_formed.ensures (c.in_ok-bases.ensures.ok ∙ c.requires.bases) (c.in_ok-deltas.ensures.ok ∙ c.requires.deltas) validity c.offset-offset.ensures c.len-len.ensures.len

pub returns : goal.returns
returns c =
    let validity = ok_same _ _ c.in_ok-validity.ensures ∙ ap (cast_validity c.args.nullability) c.validity.ensures in
    cast_made c.args.nullability c.args.self.now c.in_ok-bases.bases.value c.in_ok-deltas.deltas.value c.in_ok-validity.validity _ _ (c.in_ok-bases.ensures.ok ∙ c.requires.bases) (c.in_ok-deltas.ensures.ok ∙ c.requires.deltas) validity c.offset-offset.ensures c.len-len.ensures.len
