use Rattle.std.proofs.Common.{◌≡◌, ◌∙◌, ℕ, ℤ, IsTrue, ap, arith, length, sym, true}
use Rattle.std.proofs.Math.Path.{subst}
use Rattle.std.specs.Prelude.{Ok, count_by}
use Rattle.fl_types.specs.Masks.{mask_len}
use Rattle.fl_types.specs.Types.{has_ptype, is_integer}
use Rattle.fl_types.specs.declared.dtype.DType.{DType}
use Rattle.fl_types.specs.Refusals.{Answers}
use Rattle.fl_types.specs.Values.{integer_of}
use Rattle.fl_column.specs.Queries.{holds}
use Rattle.fl_array.specs.Trees.{column}
use Rattle.fl_scan.specs.Sources.{column_of_source}
use Rattle.fl_scan.specs.Totals.{count_of, of_kept}
use Rattle.fl_scan.proofs.KeptAnswers.{answered_under}
use Rattle.fl_scan.proofs.SearchLaws.{integers_held, ptype_held, ptype_is}
use Rattle.fl_scan.proofs.selections.count_under.Goals as goal

pub count_typed-requires-clause-typed : goal.count_typed-requires-clause-typed
count_typed-requires-clause-typed c =
    let held = ptype_held (column c.args.array.now).dtype c.in-Primitive.ptype c.in-Primitive.field-1 (sym c.dtype.ensures ∙ c.in-Primitive.is) in
    subst (λ (d : DType). IsTrue (has_ptype c.in-Primitive.ptype d)) (sym c.in_ok-source.ensures.typed) held

pub count_typed-requires-clause-constant : goal.count_typed-requires-clause-constant
count_typed-requires-clause-constant c = ptype_is (column c.args.array.now).dtype _ c.in-Primitive.ptype c.in-Primitive.field-1 (sym c.dtype.ensures ∙ c.in-Primitive.is) c.integer_for-value.ensures.typed

pub returns : goal.returns
returns c =
    let col = column c.args.array.now in
    let s = column_of_source c.in_ok-source.source in
    let m = c.args.mask.now in
    let long : mask_len m ≡ length col.items = omega arith in
    let typed : is_integer col.dtype ≡ true = integers_held col.dtype c.in-Primitive.ptype c.in-Primitive.field-1 (sym c.dtype.ensures ∙ c.in-Primitive.is) in
    subst (λ (z : ℤ). Answers (λ n. n) (Ok c.count_typed.result) (of_kept m col (count_of (holds c.args.operator z)))) c.integer_for-value.ensures.value
    (answered_under (λ n. n) (count_by (holds c.args.operator (integer_of c.integer_for-value.result))) m col s (Ok c.count_typed.result) long typed c.in_ok-source.ensures.items (ap (λ (n : ℕ). Ok n) (sym c.count_typed.ensures)))
