use Rattle.std.proofs.Common.{◌≡◌, ◌∙◌, ◌||◌, IsTrue, is_some, subst, sym}
use Rattle.std.specs.List.{list_all}
use Rattle.fl_types.specs.Types.{can_be_null}
use Rattle.fl_column.specs.Columns.{Column}
use Rattle.fl_column.proofs.CastLaws.{may_cast}
use Rattle.fl_array.specs.Reads.{IsValidityOf}
use Rattle.fl_array.specs.Trees.{column}
use Rattle.fl_ops.proofs.Answered.{decoded_is}
use Rattle.fl_ops.proofs.BlockLaws.{read_typed}
use Rattle.fl_ops.proofs.CastReads.{cast_read_answered}
use Rattle.fl_ops.proofs.by_blocks.cast.cast.Goals as goal

pub cast_read-requires-clause-typed : goal.cast_read-requires-clause-typed
cast_read-requires-clause-typed c =
    let same = decoded_is (column c.args.array.now) c.in_ok-reader.reader.column c.in_ok-reader.ensures in
    read_typed (column c.args.array.now) c.in_ok-reader.reader.column c.in-Primitive-dtype.source c.in-Primitive-dtype.field-1 same (sym c.dtype.ensures ∙ c.in-Primitive-dtype.is)

pub cast_read-requires-clause-validity : goal.cast_read-requires-clause-validity
cast_read-requires-clause-validity c =
    let same = decoded_is (column c.args.array.now) c.in_ok-reader.reader.column c.in_ok-reader.ensures in
    subst (λ (d : Column). IsValidityOf c.in_ok-validity.validity d) same c.in_ok-validity.ensures.validity

pub cast_read-requires-clause-nulls : goal.cast_read-requires-clause-nulls
cast_read-requires-clause-nulls c =
    let same = decoded_is (column c.args.array.now) c.in_ok-reader.reader.column c.in_ok-reader.ensures in
    subst (λ (d : Column). IsTrue (can_be_null c.in-Primitive.nullability || list_all is_some d.items)) same (may_cast c.in-Primitive.nullability (column c.args.array.now).items (sym c.if-has_null_against.ensures))

pub returns : goal.returns
returns c =
    rw c.in-Primitive.is (cast_read_answered c.in-Primitive.ptype c.in-Primitive.nullability (column c.args.array.now) c.in_ok-reader.reader.column c.cast_read.result c.in_ok-reader.ensures (sym c.if-has_null_against.ensures) c.cast_read.ensures)
