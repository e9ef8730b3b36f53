use Rattle.std.proofs.Common.{◌≡◌, ◌∙◌, ℤ, arith, length, sym, true}
use Rattle.std.proofs.Math.Path.{subst}
use Rattle.fl_types.specs.Masks.{mask_bits, mask_len}
use Rattle.fl_types.specs.Refusals.{Answers}
use Rattle.fl_types.specs.Types.{is_integer}
use Rattle.fl_types.specs.Values.{integer_of}
use Rattle.fl_column.specs.Queries.{holds}
use Rattle.fl_bitpacking.specs.RangeTests.{passes}
use Rattle.fl_array.specs.Trees.{column}
use Rattle.fl_scan.specs.Selections.{passed_under, under_mask}
use Rattle.fl_scan.proofs.PassingLaws.{plain_test, under_answered}
use Rattle.fl_scan.proofs.SearchLaws.{integers_held}
use Rattle.fl_scan.proofs.selections.compare_under.Goals as goal

pub passed-requires-clause-test : goal.passed-requires-clause-test
passed-requires-clause-test c = plain_test c.in-Primitive.ptype c.comparing-range.result c.comparing-range.ensures.plain

pub returns : goal.returns
returns c =
    let col = column c.args.array.now in
    let m = c.args.mask.now in
    let long : mask_len m ≡ length col.items = omega arith in
    let typed : is_integer col.dtype ≡ true = integers_held col.dtype c.in-Primitive.ptype c.in-Primitive.field-1 (sym c.dtype.ensures ∙ c.in-Primitive.is) in
    subst (λ (z : ℤ). Answers mask_bits c.passed.result (under_mask m col (passed_under m (holds c.args.operator z) col))) c.integer_for-value.ensures.value
    (under_answered m col (passes c.comparing-range.result) (holds c.args.operator (integer_of c.integer_for-value.result)) c.passed.result long typed c.comparing-range.ensures.test c.passed.ensures)
