use Rattle.std.proofs.Common.{ap, map, sym, ◌∙◌}
use Rattle.fl_array.proofs.EncodedRLE.{ok_is}
use Rattle.fl_codec.specs.Parts.{non_nullable}
use Rattle.fl_compress.specs.Choices.{part_of}
use Rattle.fl_compress.specs.Statistics.{packed_sizes}
use Rattle.fl_compress.specs.declared.statistics.ChunkSizes.TheVariants as chunks
use Rattle.fl_compress.proofs.AnswerLaws.{gives}
use Rattle.fl_compress.proofs.statistics.by_chunk.Goals as goal

pub returns : goal.returns
returns g c =
    let q = part_of c.args.part c.args.array.now in
    let references = map g.T.Number.value c.args.references.items in
    let child = ok_is _ _ (rw c.deref.ensures.value at c.in_ok-sizes.ensures) in
    let typed = ap (λ t. packed_sizes (non_nullable t references)) c.requires ∙ (ap packed_sizes (sym c.non_nullable-others.ensures) ∙ ok_is _ _ c.in_ok-others.ensures) in
    gives _ _ (ap (λ s. chunks.ByChunk s (packed_sizes (non_nullable q.ptype references))) child ∙ ap (λ s. chunks.ByChunk c.in_ok-sizes.sizes s) typed)
