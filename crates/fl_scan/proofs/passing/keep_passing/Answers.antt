use Rattle.std.proofs.Common.{◌≡◌, [], ◌+◌, ◌-◌, ◌*◌, ◌∙◌, ◌<◌, ℕ, arith, ap, length, sym, subst}
use Rattle.fl_types.specs.Bits.{tabulate}
use Rattle.fl_column.specs.Columns.{integers_in}
use Rattle.fl_scan.specs.Blocks.{items_before, of_block}
use Rattle.fl_scan.specs.Counts.{answered_from, both, marked_from, passed_in}
use Rattle.fl_scan.proofs.CountedColumns.{reaches_part}
use Rattle.fl_scan.proofs.PassingLaws.{block_item, marks_none, pushed_more}
use Rattle.fl_scan.proofs.passing.keep_passing.Goals as goal

pub push_answers-requires-clause-within : goal.push_answers-requires-clause-within
push_answers-requires-clause-within g c =
    let end = c.items_of_block.ensures.end in
    reaches_part c.args.marks.now (length c.args.reader.now.column.items) _ c.requires.marks.covered (omega arith)

pub loop-j-init : goal.loop-j-init
loop-j-init g c =
    let empty : c.in_ok-bits.bits ≡ [] = cc (c.in_ok-bits.ensures) in
    marks_none (both (marked_from c.args.marks.now 0) (passed_in (g.P.BlockTest.passing c.args.test) (integers_in c.args.reader.now.column))) c.in_ok-bits.bits (items_before c.args.reader.now 0) empty (omega arith)

pub loop-j-preserved : goal.loop-j-preserved
loop-j-preserved g c =
    let d = c.args.reader.now in
    let j = c.loop-j.j in
    let test = g.P.BlockTest.passing c.args.test in
    let zs = integers_in d.column in
    let part = c.items_of_block.result in
    let start = c.items_of_block.ensures.start in
    let at = c.items_of_block.ensures.at in
    let end = c.items_of_block.ensures.end in
    let answers = c.marked_answers-answers.result in
    let f = both (marked_from c.args.marks.now 0) (passed_in test zs) in
    let next : items_before d j + part.count ≡ items_before d (j + 1) = omega arith in
    subst (λ (n : ℕ). c.push_answers.new.bits ≡ tabulate f n) next
    (pushed_more f (both (marked_from c.args.marks.now part.start) (answered_from answers part.at)) [] c.loop-j.bits c.push_answers.new.bits (items_before d j) part.count c.loop-j.invariant c.in_ok-push_answers.ensures.pushed (λ i h.
    ap (λ (n : ℕ). both (marked_from c.args.marks.now n) (answered_from answers part.at) i) start
    ∙ (ap (λ (n : ℕ). both (marked_from c.args.marks.now (items_before d j)) (answered_from answers n) i) at
    ∙ (c.marked_answers-answers.ensures.answers i (omega arith) ∙ block_item test c.args.marks.now zs (items_before d j) (items_before d (j + 1)) i (omega arith)))))

pub returns-clause-marks : goal.returns-clause-marks
returns-clause-marks g c =
    let d = c.args.reader.now in
    let past = c.loop-j-test.false in
    let blocks = c.blocks-j-end.ensures in
    let f = both (marked_from c.args.marks.now 0) (passed_in (g.P.BlockTest.passing c.args.test) (integers_in d.column)) in
    let all : items_before d c.loop-j.j ≡ length d.column.items = omega arith in
    subst (λ (n : ℕ). c.loop-j.bits ≡ tabulate f n) all c.loop-j.invariant
