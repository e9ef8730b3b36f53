use Rattle.std.proofs.Common.{◌≡◌, ◌∙◌, ◌+◌, ◌-◌, arith, length}
use Rattle.fl_column.specs.Columns.{integers_in}
use Rattle.fl_bitpacking.specs.RangeTests.{passes}
use Rattle.fl_scan.specs.Blocks.{items_before, of_block}
use Rattle.fl_scan.specs.Counts.{passed_in}
use Rattle.fl_scan.proofs.CountedColumns.{block_answered, block_unmarked, reaches_part, same_part}
use Rattle.fl_scan.proofs.counts.count_block.Goals as goal

pub has_marks-requires : goal.has_marks-requires
has_marks-requires g c =
    let from_is = c.places-from.ensures.start in
    let to_is = c.places-from.ensures.end in
    let order = c.places-from.ensures.order in
    reaches_part c.args.marks.now (length c.args.reader.now.column.items) _ c.requires.marks.covered (omega arith)

pub count_answers-requires-clause-within : goal.count_answers-requires-clause-within
count_answers-requires-clause-within g c =
    let from_is = c.places-from.ensures.start in
    let to_is = c.places-from.ensures.end in
    let order = c.places-from.ensures.order in
    reaches_part c.args.marks.now (length c.args.reader.now.column.items) _ c.requires.marks.covered (omega arith)

pub returns-then-not-has_marks : goal.returns-then-not-has_marks
returns-then-not-has_marks g c =
    let d = c.args.reader.now in
    let from = c.places-from.result.0 in
    let to = c.places-from.result.1 in
    let from_is = c.places-from.ensures.start in
    let to_is = c.places-from.ensures.end in
    let order = c.places-from.ensures.order in
    let inside = c.requires.block in
    let first : items_before d c.args.j ≡ from = omega arith in
    let size : items_before d (c.args.j + 1) - items_before d c.args.j ≡ to - from = omega arith in
    block_unmarked c.args.marks.now (items_before d c.args.j) from (to - from) (items_before d (c.args.j + 1) - items_before d c.args.j) (passed_in (passes c.args.range) (of_block d c.args.j (integers_in d.column))) c.has_marks.result c.if-not-has_marks.true c.has_marks.ensures first size

pub returns : goal.returns
returns g c =
    let d = c.args.reader.now in
    let from = c.places-from.result.0 in
    let to = c.places-from.result.1 in
    let from_is = c.places-from.ensures.start in
    let to_is = c.places-from.ensures.end in
    let order = c.places-from.ensures.order in
    let inside = c.requires.block in
    let at = c.saturating_sub-at.ensures in
    let offset = c.offset.ensures.offset in
    let low = c.offset.ensures.low in
    let first : items_before d c.args.j ≡ from = omega arith in
    let last : items_before d (c.args.j + 1) ≡ from + (to - from) = omega arith in
    let test = passes c.args.range in
    c.count_answers.ensures ∙ (block_answered test c.args.marks.now d.column c.test_block.new.bits from c.saturating_sub-at.result (to - from) c.args.j d.offset c.requires.marks c.test_block.ensures.answers (omega arith)
    (λ i h. (omega arith, omega arith)) ∙ same_part test c.args.marks.now (integers_in d.column) from (to - from) (items_before d c.args.j) (items_before d (c.args.j + 1)) first last)
