use Rattle.std.proofs.Common.{◌∙◌}
use Rattle.fl_types.specs.Values.{scalar_parts}
use Rattle.fl_array.specs.Trees.{column}
use Rattle.fl_array.proofs.FoRSound.{held_none, held_some, refused_as_one, refused_by_count, refused_by_type}
use Rattle.fl_array.proofs.for_.for_chunked_refusal.Goals as goal

pub returns-in-Some : goal.returns-in-Some
returns-in-Some c =
    let counted = rw (c.len-len.ensures, c.dtype.ensures, c.len-count.ensures) at c.reference_count_refusal.ensures in
    refused_by_count (column c.args.encoded.now) c.args.references.now c.args.offset _ _ counted c.in-Some.is

pub returns-in-Some-one_reference : goal.returns-in-Some-one_reference
returns-in-Some-one_reference c =
    let references = c.args.references.now in
    let counted = rw (c.len-len.ensures, c.dtype.ensures, c.len-count.ensures) at c.reference_count_refusal.ensures in
    let one = held_some references c.args.offset (scalar_parts c.in-Some-one_reference.reference) c.in-Some-one_reference.ensures in
    rw c.dtype-in-Some-one_reference.ensures at c.reference_refusal.ensures
    ∙ refused_as_one (column c.args.encoded.now) references c.args.offset _ _ counted c.in_default.is one

pub returns-in-None : goal.returns-in-None
returns-in-None c =
    let references = c.args.references.now in
    let counted = rw (c.len-len.ensures, c.dtype.ensures, c.len-count.ensures) at c.reference_count_refusal.ensures in
    rw (c.dtype-in-None.ensures, c.dtype-in-None-2.ensures) at c.reference_type_refusal.ensures
    ∙ refused_by_type (column c.args.encoded.now) references c.args.offset _ counted c.in_default.is (held_none references c.args.offset c.in-None.ensures)
