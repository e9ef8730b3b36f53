use Rattle.std.proofs.Common.{◌≡◌, ◌+◌, ◌-◌, ◌*◌, ◌/◌, ◌%◌, ◌<◌, arith, ap, length, sym, ◌∙◌, ℕ, false}
use Rattle.fl_types.specs.Validities.{is_valid_at}
use Rattle.fl_column.specs.Columns.{integers_in}
use Rattle.fl_scan.specs.Blocks.{items_before, of_block}
use Rattle.fl_scan.specs.Counts.{answered_from, passed_in}
use Rattle.fl_scan.proofs.CountedColumns.{reaches_part}
use Rattle.fl_scan.proofs.PassingLaws.{item_answered, item_unmarked}
use Rattle.fl_scan.proofs.passing.marked_answers.Goals as goal

pub has_marks-requires : goal.has_marks-requires
has_marks-requires g c =
    let end = c.items_of_block-part.ensures.end in
    reaches_part c.args.marks.now (length c.args.reader.now.column.items) _ c.requires.marks.covered (omega arith)

pub returns-then-not-has_marks-clause-answers : goal.returns-then-not-has_marks-clause-answers
returns-then-not-has_marks-clause-answers g c i h =
    let d = c.args.reader.now in
    let j = c.args.j in
    let part = c.items_of_block-part.result in
    let start = c.items_of_block-part.ensures.start in
    let end = c.items_of_block-part.ensures.end in
    let off : is_valid_at c.args.marks.now (items_before d j + i) ≡ false = ap (λ (n : ℕ). is_valid_at c.args.marks.now (n + i)) (sym start) ∙ c.has_marks.ensures c.if-not-has_marks.true i (omega arith) in
    item_unmarked c.args.marks.now (items_before d j) i (answered_from _ (d.offset - 1024 * j)) (passed_in (g.P.BlockTest.passing c.args.test) (of_block d j (integers_in d.column))) off

pub returns-clause-answers : goal.returns-clause-answers
returns-clause-answers g c i h =
    let d = c.args.reader.now in
    let j = c.args.j in
    let inside = c.requires.block in
    item_answered (g.P.BlockTest.passing c.args.test) c.args.marks.now d.column c.test_block.new.bits (items_before d j) (items_before d (j + 1)) (d.offset - 1024 * j) i j d.offset c.requires.marks c.test_block.ensures.answers h (omega arith) (omega arith) (omega arith)
