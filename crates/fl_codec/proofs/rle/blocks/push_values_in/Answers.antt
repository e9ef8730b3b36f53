use Rattle.std.proofs.Common.{◌≡◌, ◌++◌, ◌∷◌, [], length, map, arith, rules, ap, sym, ◌∙◌}
use Rattle.std.proofs.lemmas.List.{length-map}
use Rattle.std.proofs.lemmas.Result.{err_from_is_err_and}
use Rattle.fl_codec.specs.Parts.{items_of_primitive}
use Rattle.fl_codec.specs.Runs.{offsets_to, values_to}
use Rattle.fl_codec.proofs.ReferenceLaws.{table_more}
use Rattle.fl_codec.proofs.rle.blocks.push_values_in.Goals as goal

pub loop-k-preserved : goal.loop-k-preserved
loop-k-preserved g c =
    let value = g.T.Number.value in
    let items = items_of_primitive c.args.array.now in
    let k = c.loop-k.k in
    let stored : c.len.result ≡ length c.loop-k.values.items = omega (arith, c.len.ensures, c.loop-k.values.ok) in
    let count : c.len.result ≡ length (values_to items k) = stored ∙ (sym (length-map c.loop-k.values.items value) ∙ ap length c.loop-k.invariant.values) in
    record {
      values = c.in_ok-push_chunk.ensures.values;
      offsets = c.in_ok-push.ensures.items ∙ (ap (λ xs. xs ++ c.len.result ∷ []) c.loop-k.invariant.offsets ∙ (ap (λ n. offsets_to items k ++ n ∷ []) count ∙ sym (table_more (λ j. length (values_to items j)) k)));
    }

pub returns-in_err-push_chunk-clause-values : goal.returns-in_err-push_chunk-clause-values
returns-in_err-push_chunk-clause-values g c = let failed = err_from_is_err_and c.from_residual-in_err-push_chunk.result c.from_residual-in_err-push_chunk.ensures.1 in rw failed.1 tt

pub returns-in_err-push_chunk-clause-offsets : goal.returns-in_err-push_chunk-clause-offsets
returns-in_err-push_chunk-clause-offsets g c = let failed = err_from_is_err_and c.from_residual-in_err-push_chunk.result c.from_residual-in_err-push_chunk.ensures.1 in rw failed.1 tt

pub returns-in_err-push-clause-values : goal.returns-in_err-push-clause-values
returns-in_err-push-clause-values g c = let failed = err_from_is_err_and c.from_residual.result c.from_residual.ensures.1 in rw failed.1 tt

pub returns-in_err-push-clause-offsets : goal.returns-in_err-push-clause-offsets
returns-in_err-push-clause-offsets g c = let failed = err_from_is_err_and c.from_residual.result c.from_residual.ensures.1 in rw failed.1 tt

pub returns-clause-values : goal.returns-clause-values
returns-clause-values g c = let all : c.loop-k.k ≡ c.args.chunks = omega arith in c.loop-k.invariant.values ∙ ap (values_to (items_of_primitive c.args.array.now)) all

pub returns-clause-offsets : goal.returns-clause-offsets
returns-clause-offsets g c = let all : c.loop-k.k ≡ c.args.chunks = omega arith in c.loop-k.invariant.offsets ∙ ap (offsets_to (items_of_primitive c.args.array.now)) all

pub loop-k-init : goal.loop-k-init
loop-k-init g c = record {
  values = ap (map g.T.Number.value) c.requires.no_values;
  offsets = c.requires.no_offsets;
}

pub push_chunk-requires : goal.push_chunk-requires
push_chunk-requires g c =
    let more = c.loop-k-test.true in
    let chunks = c.requires.chunks in
    (search rules, (c.requires.same, (omega arith, c.loop-k.invariant.values)))
