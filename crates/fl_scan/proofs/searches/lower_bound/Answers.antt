use Rattle.std.proofs.Common.{◌∙◌, IsTrue, sym}
use Rattle.std.proofs.Math.Path.{subst}
use Rattle.fl_column.specs.Columns.{Column}
use Rattle.fl_column.specs.Queries.{are_sorted}
use Rattle.fl_types.specs.Types.{has_ptype}
use Rattle.fl_array.specs.Reads.{IsValidityOf}
use Rattle.fl_array.specs.Trees.{column}
use Rattle.fl_scan.proofs.SearchLaws.{ptype_held, ptype_is}
use Rattle.fl_scan.proofs.SourceLaws.{read_is}
use Rattle.fl_scan.proofs.searches.lower_bound.Goals as goal

pub position_typed-requires-clause-typed : goal.position_typed-requires-clause-typed
position_typed-requires-clause-typed c =
    let same = read_is (column c.args.array.now) c.in_ok-reader.reader.column c.in_ok-reader.ensures in
    subst (λ (d : Column). IsTrue (has_ptype c.in-Primitive.ptype d.dtype)) same (ptype_held (column c.args.array.now).dtype c.in-Primitive.ptype c.in-Primitive.field-1 (sym c.dtype.ensures ∙ c.in-Primitive.is))

pub position_typed-requires-clause-value : goal.position_typed-requires-clause-value
position_typed-requires-clause-value c = ptype_is (column c.args.array.now).dtype _ c.in-Primitive.ptype c.in-Primitive.field-1 (sym c.dtype.ensures ∙ c.in-Primitive.is) c.integer_for-integer.ensures.typed

pub position_typed-requires-clause-validity : goal.position_typed-requires-clause-validity
position_typed-requires-clause-validity c =
    let same = read_is (column c.args.array.now) c.in_ok-reader.reader.column c.in_ok-reader.ensures in
    subst (λ (d : Column). IsValidityOf c.in_ok-validity.validity d) same c.in_ok-validity.ensures.validity

pub position_typed-requires-clause-sorted : goal.position_typed-requires-clause-sorted
position_typed-requires-clause-sorted c =
    let same = read_is (column c.args.array.now) c.in_ok-reader.reader.column c.in_ok-reader.ensures in
    subst (λ (d : Column). IsTrue (are_sorted d.items)) same c.requires.sorted
