use Rattle.std.proofs.lemmas.Result.{err_from_is_err_and}
use Rattle.fl_types.specs.Values.{scalar_parts}
use Rattle.fl_array.specs.FoRArrays.{offset_of_references}
use Rattle.fl_ops.proofs.CastedTrees.{chunked_cast_refused, for_cast_refused}
use Rattle.fl_ops.proofs.casting.+cast_to_integers.Goals as goal

pub returns-in_err-part-in-OverEncoded-clause-column : goal.returns-in_err-part-in-OverEncoded-clause-column
returns-in_err-part-in-OverEncoded-clause-column t c =
    let refused = err_from_is_err_and c.from_residual.result c.from_residual.ensures.1 in
    rw (refused.1, refused.2)
    (for_cast_refused c.in_err-part-in-OverEncoded.field-0.0 c.in-OverEncoded.encoded.now c.args.array.now (scalar_parts c.in-OverEncoded.reference) c.args.target c.in-OverEncoded.ensures.1.0 c.in-OverEncoded.ensures.0 c.in-OverEncoded.ensures.1.1
    (rw c.encoded-child.ensures.array at c.items_are_in_range.ensures) (rw c.encoded-child.ensures.array at c.in_err-part-in-OverEncoded.ensures.column))

pub returns-in_err-part-in-OverChunked-clause-column : goal.returns-in_err-part-in-OverChunked-clause-column
returns-in_err-part-in-OverChunked-clause-column t c =
    let refused = err_from_is_err_and c.from_residual-in_err-part-in-OverChunked.result c.from_residual-in_err-part-in-OverChunked.ensures.1 in
    rw (refused.1, refused.2)
    (chunked_cast_refused c.in_err-part-in-OverChunked.field-0.0 c.in-OverChunked.encoded.now c.args.array.now c.in-OverChunked.references.now (offset_of_references c.in-OverChunked.encoded.now.references) c.args.target c.in-OverChunked.ensures.1.0 c.in-OverChunked.ensures.0 c.in-OverChunked.ensures.1.1
    (rw c.encoded-child-in-OverChunked.ensures.array at c.items_are_in_range-in-OverChunked.ensures) (rw c.encoded-child-in-OverChunked.ensures.array at c.in_err-part-in-OverChunked.ensures.column))
