use Rattle.std.proofs.Common.{◌≡◌, ◌∙◌, IsTrue, arith, length, sym, true}
use Rattle.std.proofs.Math.Path.{subst}
use Rattle.fl_types.specs.Masks.{mask_len}
use Rattle.fl_types.specs.Types.{has_ptype, is_integer}
use Rattle.fl_types.specs.declared.dtype.DType.{DType}
use Rattle.fl_types.specs.Integers.{fits}
use Rattle.fl_array.specs.Trees.{column}
use Rattle.fl_scan.specs.Sources.{column_of_source}
use Rattle.fl_scan.specs.Sums.{integer_of_sum}
use Rattle.fl_scan.specs.Totals.{total}
use Rattle.fl_scan.proofs.KeptAnswers.{all_fit_under, answered_under}
use Rattle.fl_scan.proofs.SearchLaws.{fits_held, integers_held, ptype_held}
use Rattle.fl_scan.proofs.selections.sum_under.Goals as goal

pub sum_typed-requires-clause-typed : goal.sum_typed-requires-clause-typed
sum_typed-requires-clause-typed c =
    let held = ptype_held (column c.args.array.now).dtype c.in-Primitive.ptype c.in-Primitive.field-1 (sym c.dtype.ensures ∙ c.in-Primitive.is) in
    subst (λ (d : DType). IsTrue (has_ptype c.in-Primitive.ptype d)) (sym c.in_ok-source.ensures.typed) held

pub sum_typed-requires-clause-fit : goal.sum_typed-requires-clause-fit
sum_typed-requires-clause-fit c =
    let col = column c.args.array.now in
    let typed : is_integer col.dtype ≡ true = integers_held col.dtype c.in-Primitive.ptype c.in-Primitive.field-1 (sym c.dtype.ensures ∙ c.in-Primitive.is) in
    all_fit_under (fits c.in-Primitive.ptype) c.args.mask.now col (column_of_source c.in_ok-source.source) typed c.in_ok-source.ensures.items (fits_held col c.in-Primitive.ptype c.in-Primitive.field-1 (sym c.dtype.ensures ∙ c.in-Primitive.is) c.items_are_in_range.ensures)

pub returns-clause-sum : goal.returns-clause-sum
returns-clause-sum c =
    let col = column c.args.array.now in
    let s = column_of_source c.in_ok-source.source in
    let m = c.args.mask.now in
    let long : mask_len m ≡ length col.items = omega arith in
    let typed : is_integer col.dtype ≡ true = integers_held col.dtype c.in-Primitive.ptype c.in-Primitive.field-1 (sym c.dtype.ensures ∙ c.in-Primitive.is) in
    answered_under integer_of_sum total m col s c.sum_typed.result long typed c.in_ok-source.ensures.items c.sum_typed.ensures.sum
