use Rattle.std.proofs.Common.{◌+◌, ◌%◌, Ok, sym, ◌∙◌, ap, arith}
use Rattle.std.specs.Prelude.{Result}
use Rattle.fl_types.specs.declared.error.FastLanesError.{FastLanesError}
use Rattle.fl_column.specs.Columns.{Column}
use Rattle.fl_array.specs.Trees.{column}
use Rattle.fl_array.proofs.RLELaws.{kept_column, kept_refusal}
use Rattle.fl_array.proofs.rle.RLEArray.slice_chunks.Goals as goal

pub invariant_of-result : goal.invariant_of-result
invariant_of-result c =
    let a = c.args.self.now in
    let len = c.len-len.ensures.len in
    let items = c.len-len.ensures.items in
    let range = c.requires.range in
    kept_refusal a c.in_ok-values.values.value c.in_ok-indices.indices.value c.in_ok-offsets.offsets.value _ c.args.start c.args.end c.prove_well_formed.ensures c.requires.order (omega arith)
    (ap column c.in_ok-values.ensures.ok ∙ c.requires.values) (ap column c.in_ok-indices.ensures.ok ∙ c.requires.indices) (ap column c.in_ok-offsets.ensures.ok ∙ c.requires.offsets) (ap (λ o. (o + c.args.start) % 1024) c.offset.ensures)

pub returns-clause-column : goal.returns-clause-column
returns-clause-column c =
    let a = c.args.self.now in
    let len = c.len-len.ensures.len in
    let items = c.len-len.ensures.items in
    let range = c.requires.range in
    let ok : Column → Result Column FastLanesError = λ x. Ok x in
    ap ok (sym (kept_column a c.in_ok-values.values.value c.in_ok-indices.indices.value c.in_ok-offsets.offsets.value _ c.args.start c.args.end c.prove_well_formed.ensures c.requires.order (omega arith)
    (ap column c.in_ok-values.ensures.ok ∙ c.requires.values) (ap column c.in_ok-indices.ensures.ok ∙ c.requires.indices) (ap column c.in_ok-offsets.ensures.ok ∙ c.requires.offsets) (ap (λ o. (o + c.args.start) % 1024) c.offset.ensures)))
