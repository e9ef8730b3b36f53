use Rattle.std.proofs.Common.{◌≡◌, ◌+◌, ◌-◌, ◌≤◌, arith, length}
use Rattle.fl_column.specs.Columns.{integers_in}
use Rattle.fl_bitpacking.specs.RangeTests.{passes}
use Rattle.fl_scan.specs.Blocks.{items_before, of_block}
use Rattle.fl_scan.specs.Counts.{both, marked_from, passed_in}
use Rattle.fl_scan.proofs.CountedColumns.{block_more, counted_column, none_before}
use Rattle.fl_scan.proofs.CountingLaws.{few_below}
use Rattle.fl_scan.proofs.counts.count_marked.Goals as goal

pub overflow_add-count : goal.overflow_add-count
overflow_add-count g c =
    let d = c.args.reader.now in
    let j = c.loop-j.j in
    let so_far = c.loop-j.invariant.1 in
    let most = few_below (both (marked_from c.args.marks.now (items_before d j)) (passed_in (passes c.args.range) (of_block d j (integers_in d.column)))) (items_before d (j + 1) - items_before d j) in
    let here = c.count_block-count.ensures in
    let len = c.len-len.ensures in
    omega arith

pub loop-j-init : goal.loop-j-init
loop-j-init g c =
    let d = c.args.reader.now in
    let none : items_before d 0 ≡ 0 = omega arith in
    (none_before (both (marked_from c.args.marks.now 0) (passed_in (passes c.args.range) (integers_in d.column))) (items_before d 0) none, omega arith)

pub loop-j-preserved : goal.loop-j-preserved
loop-j-preserved g c =
    let d = c.args.reader.now in
    let j = c.loop-j.j in
    let order : items_before d j ≤ items_before d (j + 1) = omega arith in
    let test = passes c.args.range in
    let so_far = c.loop-j.invariant.1 in
    let here = c.count_block-count.ensures in
    let most = few_below (both (marked_from c.args.marks.now (items_before d j)) (passed_in test (of_block d j (integers_in d.column)))) (items_before d (j + 1) - items_before d j) in
    (block_more test c.args.marks.now (integers_in d.column) (items_before d j) (items_before d (j + 1)) c.loop-j.count c.count_block-count.result order c.loop-j.invariant.0 here, omega arith)

pub returns : goal.returns
returns g c =
    let d = c.args.reader.now in
    let past = c.loop-j-test.false in
    let blocks = c.blocks-j-end.ensures in
    let all : items_before d c.loop-j.j ≡ length d.column.items = omega arith in
    counted_column (passes c.args.range) c.args.marks.now d.column c.loop-j.count (items_before d c.loop-j.j) c.requires.marks all c.loop-j.invariant.0
