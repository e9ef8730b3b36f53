use Rattle.std.proofs.Common.{◌≡◌, ◌++◌, ◌∷◌, [], length, arith, ap, sym, ◌∙◌}
use Rattle.std.proofs.lemmas.List.{length-map}
use Rattle.fl_codec.specs.Dictionaries.{dictionaries_to, dictionary_offsets_to}
use Rattle.fl_codec.specs.Parts.{items_of_primitive}
use Rattle.fl_codec.proofs.ReferenceLaws.{table_more}
use Rattle.fl_codec.proofs.rle.dictionary.push_chunks.Goals as goal

pub loop-k-preserved : goal.loop-k-preserved
loop-k-preserved g c =
    let value = g.T.Number.value in
    let items = items_of_primitive c.args.array.now in
    let k = c.loop-k.k in
    let values = c.loop-k.parts.values in
    let count_stored = c.len-in-loop-k.result in
    let stored : count_stored ≡ length values.items = omega (arith, c.len-in-loop-k.ensures, values.ok) in
    let count : count_stored ≡ length (dictionaries_to items k) = stored ∙ (sym (length-map values.items value) ∙ ap length c.loop-k.invariant.values) in
    record {
      values = c.in_ok-push_chunk.ensures.values;
      indices = c.in_ok-push_chunk.ensures.indices;
      offsets = ap (λ v. v.items) c.push_chunk.ensures.offsets ∙ (c.in_ok-push.ensures.items ∙ (ap (λ xs. xs ++ count_stored ∷ []) c.loop-k.invariant.offsets ∙ (ap (λ n. dictionary_offsets_to items k ++ n ∷ []) count ∙ sym (table_more (λ j. length (dictionaries_to items j)) k))));
    }
