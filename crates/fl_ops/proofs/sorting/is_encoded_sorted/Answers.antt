use Rattle.std.proofs.Common.{◌≡◌, ◌∙◌, true, Ok, ap, refl, sym}
use Rattle.std.specs.Prelude.{is_some}
use Rattle.fl_types.specs.Types.{is_integer}
use Rattle.fl_types.specs.Values.{scalar_parts}
use Rattle.fl_column.specs.Columns.{column_of_constant}
use Rattle.fl_column.specs.Queries.{is_sorted_column}
use Rattle.fl_array.specs.Trees.{column}
use Rattle.fl_ops.proofs.SortedLaws.{rises_over_constant}
use Rattle.fl_ops.proofs.sorting.is_encoded_sorted.Goals as goal

pub returns-in-Some : goal.returns-in-Some
returns-in-Some c =
    let constant = c.in-Some.constant.now in
    let encoded : column c.args.array.now.encoded ≡ column_of_constant constant = ap column (sym c.encoded-encoded.ensures.array) ∙ c.in-Some.ensures.column in
    let typed : is_integer (column_of_constant constant).dtype ≡ true = ap (λ t. is_some t) c.ptype-ptype.ensures in
    let answer : is_sorted_column c.args.strict (column_of_constant constant) ≡ Ok c.is_sorted.result = rw (typed, c.is_sorted.ensures) refl in
    rises_over_constant c.args.strict c.args.array.now (scalar_parts c.args.reference) constant c.requires encoded ∙ answer
