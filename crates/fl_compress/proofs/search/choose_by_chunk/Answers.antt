use Rattle.std.proofs.Common.{map, ap, sym, ◌∙◌}
use Rattle.fl_array.proofs.EncodedRLE.{ok_is}
use Rattle.fl_codec.specs.Parts.{non_nullable}
use Rattle.fl_compress.specs.Candidates.{packed_schemes}
use Rattle.fl_compress.specs.Cheapest.{cheapest}
use Rattle.fl_compress.specs.Choices.{chosen}
use Rattle.fl_compress.specs.EncodedBytes.{encoded_bytes}
use Rattle.fl_compress.proofs.AnswerLaws.{over_two}
use Rattle.fl_compress.proofs.search.choose_by_chunk.Goals as goal

pub returns : goal.returns
returns g c =
    let references = map g.T.Number.value c.args.references.items in
    let schemes = packed_schemes c.args.limits.now c.args.depth in
    let typed = ap (λ t. cheapest (encoded_bytes (non_nullable t references)) schemes) (sym c.requires) in
    over_two c.args.order (chosen c.in_ok-child.child) (chosen c.in_ok-others.others) _ _ c.over_chunk_references.result (sym (ok_is _ _ (rw c.deref.ensures.value at c.in_ok-child.ensures.choice)))
    (sym (ok_is _ _ c.in_ok-others.ensures.choice) ∙ (ap (λ r. cheapest (encoded_bytes r) schemes) c.non_nullable-others.ensures ∙ typed)) c.over_chunk_references.ensures
