use Rattle.std.proofs.Common.{sym, ap, ◌∙◌}
use Rattle.fl_types.specs.Types.{integer_type}
use Rattle.fl_types.specs.Values.{ScalarParts, scalar_parts}
use Rattle.fl_array.specs.FoRArrays.{offset_of_references}
use Rattle.fl_array.specs.Trees.{column}
use Rattle.fl_array.proofs.FoRSound.{scalar_restored, has_references, chunked_item}
use Rattle.fl_array.proofs.for_.FoRArray.item_chunked.Goals as goal

pub plus_reference-requires : goal.plus_reference-requires
plus_reference-requires c =
    let a = c.args.self.now in
    let s = has_references a c.args.references.now (offset_of_references a.references) c.prove_well_formed.ensures c.requires.same in
    let of_item = ap (λ (x : ScalarParts). integer_type x.dtype) c.requires.item in
    let of_reference = ap (λ (x : ScalarParts). integer_type x.dtype) c.requires.reference in
    of_item ∙ (sym s.typed ∙ (sym of_reference ∙ c.in-Some.ensures.typed))

pub returns : goal.returns
returns c =
    let a = c.args.self.now in
    let s = has_references a c.args.references.now (offset_of_references a.references) c.prove_well_formed.ensures c.requires.same in
    let of_reference = ap (λ (x : ScalarParts). integer_type x.dtype) c.requires.reference in
    c.plus_reference.ensures
    ∙ (scalar_restored (column a.encoded) (scalar_parts c.args.item) (scalar_parts c.args.reference) _ _ c.in-Some.ensures.value (sym s.typed ∙ (sym of_reference ∙ c.in-Some.ensures.typed))
    ∙ sym (chunked_item a c.args.references.now (offset_of_references a.references) c.args.i (scalar_parts c.args.item) (scalar_parts c.args.reference) c.requires.same c.prove_well_formed.ensures c.requires.range c.requires.item c.requires.reference))
