use Rattle.std.proofs.Common.{Ok, ap, map, subst, sym, ◌∙◌}
use Rattle.fl_types.specs.Refusals.{Answers}
use Rattle.fl_array.proofs.EncodedRLE.{ok_is}
use Rattle.fl_compress.specs.Choices.{part_of}
use Rattle.fl_compress.specs.Statistics.{chunk_sizes}
use Rattle.fl_compress.specs.declared.statistics.ChunkSizes.TheVariants as chunks
use Rattle.fl_compress.proofs.AnswerLaws.{gives}
use Rattle.fl_compress.proofs.DifferenceLaws.{chunks_encoded, common_encoded, nulls_encoded}
use Rattle.fl_compress.proofs.statistics.of_references.Goals as goal

pub returns-then-is_all_null : goal.returns-then-is_all_null
returns-then-is_all_null g c =
    let q = part_of c.args.part c.args.array.now in
    gives _ _ (ap chunk_sizes (nulls_encoded c.args.order q (sym c.is_all_null.ensures ∙ c.if-is_all_null.true)))

pub returns-in_ok-sizes-in-Some : goal.returns-in_ok-sizes-in-Some
returns-in_ok-sizes-in-Some g c =
    let q = part_of c.args.part c.args.array.now in
    let value = g.T.Number.value in
    gives _ _ (ap chunk_sizes (common_encoded c.args.order q (map value c.args.references.items) (value c.in-Some.reference) (sym c.is_all_null.ensures ∙ c.if-is_all_null.false) c.requires.references (rw c.deref.ensures.value at c.in-Some.ensures))
    ∙ ap (λ s. chunks.Whole s) (ok_is _ _ c.in_ok-sizes-in-Some.ensures))

pub returns-in-None : goal.returns-in-None
returns-in-None g c =
    let q = part_of c.args.part c.args.array.now in
    let references = map g.T.Number.value c.args.references.items in
    subst (λ z. Answers (λ sizes. sizes) c.by_chunk.result (Ok z)) (ap chunk_sizes (sym (chunks_encoded c.args.order q references (sym c.is_all_null.ensures ∙ c.if-is_all_null.false) c.requires.references (rw c.deref.ensures.value at c.in-None.ensures)))) c.by_chunk.ensures
