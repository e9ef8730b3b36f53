use Rattle.std.proofs.Common.{◌≡◌, ◌∙◌, arith, length, sym, true}
use Rattle.fl_types.specs.Masks.{mask_len}
use Rattle.fl_types.specs.Types.{is_integer}
use Rattle.fl_types.specs.Values.{integer_of}
use Rattle.fl_column.specs.Queries.{is_between}
use Rattle.fl_bitpacking.specs.RangeTests.{passes}
use Rattle.fl_array.specs.Trees.{column}
use Rattle.fl_scan.proofs.PassingLaws.{plain_test, under_answered}
use Rattle.fl_scan.proofs.SearchLaws.{integers_held}
use Rattle.fl_scan.proofs.selections.between_under.Goals as goal

pub passed-requires-clause-test : goal.passed-requires-clause-test
passed-requires-clause-test c = plain_test c.in-Primitive.ptype c.between-range.result c.between-range.ensures.plain

pub returns : goal.returns
returns c =
    let col = column c.args.array.now in
    let m = c.args.mask.now in
    let long : mask_len m ≡ length col.items = omega arith in
    let typed : is_integer col.dtype ≡ true = integers_held col.dtype c.in-Primitive.ptype c.in-Primitive.field-1 (sym c.dtype.ensures ∙ c.in-Primitive.is) in
    rw (← c.integer_for-low.ensures.value, ← c.integer_for-high.ensures.value)
    (under_answered m col (passes c.between-range.result) (is_between c.args.options.now (integer_of c.integer_for-low.result) (integer_of c.integer_for-high.result)) c.passed.result long typed c.between-range.ensures.test c.passed.ensures)
