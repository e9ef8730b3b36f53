use Rattle.std.proofs.Common.{◌≡◌, refl}
use Rattle.fl_column.specs.Columns.{column_of_primitive}
use Rattle.fl_column.specs.Operations.{filter_of, slice_of}
use Rattle.fl_types.proofs.RefusalLaws.{Answers_view}
use Rattle.fl_column.proofs.SelectionLaws.{kept_all, kept_none}
use Rattle.fl_column.proofs.primitive.PrimitiveArray.filter.Goals as goal

pub returns-in-AllTrue : goal.returns-in-AllTrue
returns-in-AllTrue c =
    let column = column_of_primitive c.args.self.now in
    let same : column ≡ filter_of c.args.mask.now column = rw (c.in-AllTrue.is, kept_all _ column.items (rw c.in-AllTrue.is at c.requires)) refl in
    Answers_view column_of_primitive c.try_clone.result c.args.self.now (filter_of c.args.mask.now column) same c.try_clone.ensures

pub returns-in-AllFalse : goal.returns-in-AllFalse
returns-in-AllFalse c =
    let column = column_of_primitive c.args.self.now in
    let same : slice_of 0 0 column ≡ filter_of c.args.mask.now column = rw (c.in-AllFalse.is, kept_none _ column.items) refl in
    rw (← same) c.slice.ensures.column
