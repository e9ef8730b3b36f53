use Rattle.std.proofs.Common.{map, pos, sym, ◌∙◌, length}
use Rattle.fl_codec.specs.FoRColumns.{chunked_slots}
use Rattle.fl_codec.specs.Parts.{items_of_primitive, non_nullable, null_constant, reference_scalar, subtract_reference}
use Rattle.fl_compress.specs.Candidates.{packed_schemes}
use Rattle.fl_compress.specs.Choices.{chosen, part_of, with_slots}
use Rattle.fl_compress.proofs.AnswerLaws.{chunks_choice, common_choice, nulls_choice}
use Rattle.fl_compress.proofs.DifferenceLaws.{chunks_encoded, common_encoded, nulls_encoded}
use Rattle.fl_compress.proofs.search.choose_chunk_references.Goals as goal

pub returns-then-is_all_null : goal.returns-then-is_all_null
returns-then-is_all_null g c =
    let q = part_of c.args.part c.args.array.now in
    nulls_choice c.args.order q (null_constant q.ptype (length q.slots)) (reference_scalar q.ptype (pos 0)) c.args.limits.now c.args.depth (chosen c.plain.result) (chosen c.plain-then-is_all_null.result) c.over_chunk_references.result
    (nulls_encoded c.args.order q (sym c.is_all_null.ensures ∙ c.if-is_all_null.true)) c.plain.ensures c.plain-then-is_all_null.ensures c.over_chunk_references.ensures

pub returns-in-Some : goal.returns-in-Some
returns-in-Some g c =
    let q = part_of c.args.part c.args.array.now in
    let value = g.T.Number.value in
    common_choice c.args.order q (subtract_reference q (value c.in-Some.reference)) c.args.limits.now c.args.depth c.choose_common.result
    (common_encoded c.args.order q (map value c.args.references.items) (value c.in-Some.reference) (sym c.is_all_null.ensures ∙ c.if-is_all_null.false) c.requires.references (rw c.deref.ensures.value at c.in-Some.ensures)) c.choose_common.ensures

pub returns-in-None : goal.returns-in-None
returns-in-None g c =
    let q = part_of c.args.part c.args.array.now in
    let references = map g.T.Number.value c.args.references.items in
    chunks_choice c.args.order q (with_slots q (chunked_slots q.ptype references (items_of_primitive q))) (non_nullable q.ptype references) (packed_schemes c.args.limits.now c.args.depth) c.choose_by_chunk.result
    (chunks_encoded c.args.order q references (sym c.is_all_null.ensures ∙ c.if-is_all_null.false) c.requires.references (rw c.deref.ensures.value at c.in-None.ensures)) c.choose_by_chunk.ensures
