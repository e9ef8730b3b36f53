use Rattle.std.proofs.Common.{◌+◌, ◌%◌, Ok, sym, ◌∙◌, ap, arith}
use Rattle.std.specs.Prelude.{Result}
use Rattle.fl_types.specs.declared.error.FastLanesError.{FastLanesError}
use Rattle.fl_types.specs.Validities.{validity_between}
use Rattle.fl_column.specs.Columns.{Column}
use Rattle.fl_patches.proofs.Parts.{ok_same}
use Rattle.fl_array.specs.Trees.{column}
use Rattle.fl_array.proofs.DeltaLaws.{kept_column, kept_refusal}
use Rattle.fl_array.proofs.delta.DeltaArray.slice_blocks.Goals as goal

pub invariant_of-result : goal.invariant_of-result
invariant_of-result c =
    let a = c.args.self.now in
    let len = c.len-len.ensures.len in
    let items = c.len-len.ensures.items in
    let range = c.requires.range in
    let same = ok_same _ _ c.in_ok-validity.ensures ∙ ap (validity_between c.args.start c.args.end) c.validity.ensures in
    kept_refusal a c.in_ok-bases.bases.value c.in_ok-deltas.deltas.value c.in_ok-validity.validity _ c.args.start c.args.end c.prove_well_formed.ensures c.requires.order (omega arith)
    (ap column c.in_ok-bases.ensures.ok ∙ c.requires.bases) (ap column c.in_ok-deltas.ensures.ok ∙ c.requires.deltas) same (ap (λ o. (o + c.args.start) % 1024) c.offset.ensures)

pub returns-clause-column : goal.returns-clause-column
returns-clause-column c =
    let a = c.args.self.now in
    let len = c.len-len.ensures.len in
    let items = c.len-len.ensures.items in
    let range = c.requires.range in
    let same = ok_same _ _ c.in_ok-validity.ensures ∙ ap (validity_between c.args.start c.args.end) c.validity.ensures in
    let ok : Column → Result Column FastLanesError = λ x. Ok x in
    ap ok (sym (kept_column a c.in_ok-bases.bases.value c.in_ok-deltas.deltas.value c.in_ok-validity.validity _ c.args.start c.args.end c.requires.order (omega arith)
    (ap column c.in_ok-bases.ensures.ok ∙ c.requires.bases) (ap column c.in_ok-deltas.ensures.ok ∙ c.requires.deltas) same (ap (λ o. (o + c.args.start) % 1024) c.offset.ensures)))
