use Rattle.std.proofs.Common.{◌≡◌, ◌+◌, ◌∙◌, cond, eqb, min, ap, refl, arith, rules}
use Rattle.fl_patches.proofs.Parts.{ok_same}
use Rattle.fl_patches.specs.declared.widths.Widths.{Widths}
use Rattle.fl_column.specs.Columns.{new_bools}
use Rattle.fl_bitpacking.specs.declared.bitpack_decompress.PackedColumn.{PackedColumn}
use Rattle.fl_bitpacking.specs.declared.compute.compare.PackedTest.{PackedTest}
use Rattle.fl_bitpacking.specs.declared.compute.compare.block_tests.BlockTests.{BlockTests}
use Rattle.fl_bitpacking.specs.declared.compute.range_test.RangeTest.{RangeTest}
use Rattle.fl_bitpacking.specs.Blocks.{blocks_of}
use Rattle.fl_bitpacking.specs.Columns.{block_count}
use Rattle.fl_bitpacking.specs.Decided.{undecided_below, undecided_by_block}
use Rattle.fl_bitpacking.specs.Parts.{parts_of}
use Rattle.fl_bitpacking.specs.RangeTests.{passes}
use Rattle.fl_bitpacking.specs.Readings.{Reading}
use Rattle.fl_bitpacking.specs.References.{of_sums}
use Rattle.fl_bitpacking.specs.declared.references.References.{References}
use Rattle.fl_bitpacking.specs.Compared.{passes_in}
use Rattle.fl_bitpacking.proofs.BlockTestLaws.{item_answered, tests_are, undecided_is}
use Rattle.fl_bitpacking.proofs.ComparedLaws.{column_tested}
use Rattle.fl_bitpacking.proofs.ReadWidths.{readable}
use Rattle.fl_bitpacking.proofs.compute.compare.test_column.Goals as goal

pub test_items-stored-requires-clause-readable : goal.test_items-stored-requires-clause-readable
test_items-stored-requires-clause-readable c = rw (c.over-reader.ensures, c.new-test.ensures.typed) (readable c.args.column.now c.args.widths c.requires.fit c.requires.widths)

pub returns-clause-column : goal.returns-clause-column
returns-clause-column c =
    let parts = parts_of c.args.column.now in
    let blocks = blocks_of c.args.widths in
    let references = c.args.references in
    let tests : BlockTests = record { test = c.new-test.result; references = c.args.references } in
    let same : passes_in tests ≡ of_sums parts.ptype references (passes c.args.range) = tests_are tests parts.ptype references c.args.range c.new-test.ensures.typed c.new-test.ensures.range refl in
    let valid = ok_same _ _ c.in_ok-validity.ensures in
    let long = c.in_ok-stored.ensures.long in
    column_tested (passes c.args.range) references parts blocks c.with_patches-bits.result c.new.result c.requires.fit (c.with_patches-bits.ensures.long ∙ long)
    (λ i h. item_answered tests (of_sums parts.ptype references (passes c.args.range)) parts blocks _ _ i c.new-test.ensures.typed same (c.with_patches-bits.ensures.bits i (omega arith)) (rw c.over-reader.ensures at (c.in_ok-stored.ensures.bits i h)))
    (c.new.ensures ∙ ap (λ v. new_bools c.with_patches-bits.result v) valid)

count : (range : RangeTest) (column : PackedColumn) (widths : Widths) (references : References) (test : PackedTest) → test.ptype ≡ column.ptype → test.range ≡ range
    → cond (eqb column.len 0) 0 (undecided_below test.ptype (blocks_of widths) (passes_in (record { test = test; references = references })) (block_count (parts_of column)))
    ≡ undecided_by_block (parts_of column) (blocks_of widths) (of_sums column.ptype references (passes range))
count range column widths references test typed same =
    let tests : BlockTests = record { test = test; references = references } in
    undecided_is tests (of_sums column.ptype references (passes range)) (parts_of column) (blocks_of widths) typed (tests_are tests column.ptype references range typed same refl)

pub returns-in_err-stored-clause-most : goal.returns-in_err-stored-clause-most
returns-in_err-stored-clause-most c =
    let begun = ap (λ (r : Reading). r.blocks) c.over-reader.ensures in
    let read = c.test_items-stored.ensures.most.blocks in
    let ended = c.finish.ensures.blocks in
    let all = count c.args.range c.args.column.now c.args.widths c.args.references c.new-test.result c.new-test.ensures.typed c.new-test.ensures.range in
    omega arith

pub returns-in_err-validity-clause-most : goal.returns-in_err-validity-clause-most
returns-in_err-validity-clause-most c =
    let begun = ap (λ (r : Reading). r.blocks) c.over-reader.ensures in
    let read = c.test_items-stored.ensures.most.blocks in
    let ended = c.finish.ensures.blocks in
    let all = count c.args.range c.args.column.now c.args.widths c.args.references c.new-test.result c.new-test.ensures.typed c.new-test.ensures.range in
    omega arith

pub returns-clause-most : goal.returns-clause-most
returns-clause-most c =
    let begun = ap (λ (r : Reading). r.blocks) c.over-reader.ensures in
    let read = c.test_items-stored.ensures.most.blocks in
    let ended = c.finish.ensures.blocks in
    let all = count c.args.range c.args.column.now c.args.widths c.args.references c.new-test.result c.new-test.ensures.typed c.new-test.ensures.range in
    omega arith

pub returns-clause-blocks : goal.returns-clause-blocks
returns-clause-blocks c =
    let begun = ap (λ (r : Reading). r.blocks) c.over-reader.ensures in
    let read = ap (λ (r : Reading). r.blocks) c.in_ok-stored.ensures.counted in
    let ended = c.finish.ensures.blocks in
    let all = count c.args.range c.args.column.now c.args.widths c.args.references c.new-test.result c.new-test.ensures.typed c.new-test.ensures.range in
    let counted : c.finish.result.blocks ≡ min (c.args.work.now.blocks + undecided_by_block (parts_of c.args.column.now) (blocks_of c.args.widths) (of_sums c.args.column.now.ptype c.args.references (passes c.args.range))) 18446744073709551615 = omega arith in
    search rules
