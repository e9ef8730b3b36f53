use Rattle.std.proofs.Common.{◌∙◌, sym, subst}
use Rattle.std.specs.Prelude.{Result}
use Rattle.fl_types.specs.declared.dtype.Nullability.TheVariants.{Nullable}
use Rattle.fl_types.specs.declared.error.FastLanesError.{FastLanesError}
use Rattle.fl_types.specs.Refusals.{Answers}
use Rattle.fl_column.specs.Columns.{Column, column_of_primitive}
use Rattle.fl_bitpacking.proofs.TakenColumns.{either_by_null, either_stands, taken_is, taken_without_nulls_is}
use Rattle.fl_bitpacking.proofs.compute.take.Taking.named_items.Goals as goal

pub items_between_nulls-requires-clause-below : goal.items_between_nulls-requires-clause-below
items_between_nulls-requires-clause-below g c = c.requires.positions.below

pub items_between_nulls-requires-clause-named : goal.items_between_nulls-requires-clause-named
items_between_nulls-requires-clause-named g c = c.requires.positions.named

pub returns-then-has_null : goal.returns-then-has_null
returns-then-has_null g c =
    let by : Result Column FastLanesError → Type 0 = λ m. Answers column_of_primitive c.items_between_nulls.result m in
    let p = c.args.indices.now in
    subst by (sym (taken_is c.args.self p Nullable (either_by_null c.args.self.column.validity.now p (sym c.has_null.ensures ∙ c.if-has_null.true)) c.requires.positions)) c.items_between_nulls.ensures

pub items-requires-clause-below : goal.items-requires-clause-below
items-requires-clause-below g c = c.requires.positions.below

pub items-requires-clause-nulls : goal.items-requires-clause-nulls
items-requires-clause-nulls g c = either_stands c.args.self.column.validity.now c.args.indices.now c.nullability_over-nullability.result c.nullability_over-nullability.ensures

pub returns : goal.returns
returns g c =
    let by : Result Column FastLanesError → Type 0 = λ m. Answers column_of_primitive c.items.result m in
    let p = c.args.indices.now in
    subst by (sym (taken_without_nulls_is c.args.self p c.nullability_over-nullability.result c.nullability_over-nullability.ensures (sym c.has_null.ensures ∙ c.if-has_null.false) c.requires.positions)) c.items.ensures
