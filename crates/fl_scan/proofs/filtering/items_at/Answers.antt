use Rattle.std.proofs.Common.{◌≡◌, ◌+◌, ◌≤◌, ◌++◌, ◌∙◌, ap, length, map, arith, sym, take}
use Rattle.fl_column.specs.Columns.{integers_in}
use Rattle.fl_scan.specs.Blocks.{items_before, of_block}
use Rattle.fl_types.specs.Bits.{kept}
use Rattle.fl_scan.proofs.BlockLaws.{kept_more, length_integers, none_before}
use Rattle.fl_scan.proofs.MaskLaws.{prefix_kept}
use Rattle.fl_scan.proofs.filtering.items_at.Goals as goal

pub loop-j-init : goal.loop-j-init
loop-j-init g c =
    let d = c.args.reader.now in
    let none : items_before d 0 ≡ 0 = omega arith in
    ap (map g.T.Number.value) c.in_ok-taken.ensures.items ∙ none_before c.args.bits.now (integers_in d.column) (items_before d 0) none

pub loop-j-preserved : goal.loop-j-preserved
loop-j-preserved g c =
    let d = c.args.reader.now in
    let bits = c.args.bits.now in
    let zs = integers_in d.column in
    let j = c.loop-j.j in
    let order : items_before d j ≤ items_before d (j + 1) = omega arith in
    c.in_ok-push_block.ensures.taken ∙ (ap (λ ys. ys ++ kept (of_block d j bits) (of_block d j zs)) c.loop-j.invariant ∙ sym (kept_more bits zs (items_before d j) (items_before d (j + 1)) order))

pub returns-clause-items : goal.returns-clause-items
returns-clause-items g c =
    let d = c.args.reader.now in
    let zs = integers_in d.column in
    let past = c.loop-j-test.false in
    let blocks = c.blocks-j-end.ensures in
    let long = length_integers d.column in
    let all : length zs ≤ items_before d c.loop-j.j = omega arith in
    c.loop-j.invariant ∙ prefix_kept c.args.bits.now zs (items_before d c.loop-j.j) all
