use Rattle.std.proofs.Common.{◌≡◌, ℕ, IsTrue, None, Ok, Option, Some, refl, sym, ◌∙◌}
use Rattle.fl_types.specs.declared.error.FastLanesError.{FastLanesError}
use Rattle.fl_types.specs.Refusals.{Refuses}
use Rattle.fl_patches.proofs.Parts.{ok_same}
use Rattle.fl_bitpacking.specs.Refusals.{accepted}
use Rattle.fl_bitpacking.proofs.SoundParts.{neither}
use Rattle.fl_array.specs.FoRArrays.{FoRArrayParts, FoRReferencesParts, for_chunked_refusal, for_refusal, has_no_constant, new_for_chunked, references_of}
use Rattle.fl_array.specs.Trees.{Tree, column}
use Rattle.fl_array.proofs.FoRSound.{no_constant_kept}
use Rattle.fl_array.proofs.Refused.{Refuses_same, accepted_is, refused_there}
use Rattle.fl_array.proofs.for_.FoR.try_new_chunked.Goals as goal

refused_as : {Y : Type 0} (x : Y) (e : FastLanesError) (refusal : Option FastLanesError) → refusal ≡ Some e → Refuses e (accepted x refusal)
refused_as x e refusal is = rw is (Refuses_same _ e)

-- the parts that are kept are those of the model
made : (encoded references : Tree) (offset : ℕ) (kept : Tree) (stored : FoRReferencesParts) → for_chunked_refusal (column encoded) references offset ≡ None → kept ≡ encoded
    → references_of references offset ≡ stored → new_for_chunked encoded references offset ≡ Ok (record { encoded = kept; references = stored })
made encoded references offset kept stored none same is =
    let model : FoRArrayParts = record { encoded = encoded; references = references_of references offset } in
    accepted_is model _ none ∙ rw (same, ← is) refl

-- and they make an array
sound : (encoded references : Tree) (offset : ℕ) (kept : Tree) (stored : FoRReferencesParts) → for_chunked_refusal (column encoded) references offset ≡ None → kept ≡ encoded
    → references_of references offset ≡ stored → (for_refusal (column kept) stored ≡ None) × IsTrue (has_no_constant stored)
sound encoded references offset kept stored none same is = rw (same, ← is) ((neither _ (for_refusal (column encoded) (references_of references offset)) none).1, no_constant_kept references offset)

pub returns-in-Some : goal.returns-in-Some
returns-in-Some c = refused_as _ _ _ (sym (rw c.from-offset.ensures at c.for_chunked_refusal.ensures) ∙ c.in-Some.is)

pub returns-in_err-references-in-None : goal.returns-in_err-references-in-None
returns-in_err-references-in-None c =
    let none = sym (rw c.from-offset.ensures at c.for_chunked_refusal.ensures) ∙ c.in-None.is in
    refused_there (references_of c.args.references c.args.offset) _ c.from_residual.result c.in_err-references-in-None.field-0.0 (for_chunked_refusal (column c.args.encoded) c.args.references c.args.offset) c.from_residual.ensures.1
    (rw none (rw c.from-offset.ensures at c.in_err-references-in-None.ensures))

pub invariant_of-result : goal.invariant_of-result
invariant_of-result c =
    let none = sym (rw c.from-offset.ensures at c.for_chunked_refusal.ensures) ∙ c.in-None.is in
    let stored = sym (ok_same _ _ (rw c.from-offset.ensures at c.in_ok-references-in-None.ensures)) in
    sound c.args.encoded c.args.references c.args.offset _ _ none c.in_ok-encoded-in-None.ensures.ok stored

pub returns-in_ok-encoded-in-None : goal.returns-in_ok-encoded-in-None
returns-in_ok-encoded-in-None c =
    let none = sym (rw c.from-offset.ensures at c.for_chunked_refusal.ensures) ∙ c.in-None.is in
    let stored = sym (ok_same _ _ (rw c.from-offset.ensures at c.in_ok-references-in-None.ensures)) in
    made c.args.encoded c.args.references c.args.offset _ _ none c.in_ok-encoded-in-None.ensures.ok stored
