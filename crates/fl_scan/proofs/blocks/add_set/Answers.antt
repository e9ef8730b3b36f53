use Rattle.std.proofs.Common.{◌≡◌, ◌+◌, ◌≤◌, length, arith, sym, take}
use Rattle.std.proofs.Math.Path.{subst}
use Rattle.fl_types.specs.Bits.{kept}
use Rattle.fl_column.specs.Columns.{integers_in}
use Rattle.fl_scan.specs.Blocks.{items_before, of_block}
use Rattle.fl_scan.proofs.BlockLaws.{kept_more, length_integers, none_before}
use Rattle.fl_scan.proofs.MaskLaws.{prefix_kept}
use Rattle.fl_scan.proofs.blocks.add_set.Goals as goal

pub loop-j-init : goal.loop-j-init
loop-j-init g c =
    let d = c.args.reader.now in
    let none : items_before d 0 ≡ 0 = omega arith in
    subst (λ ys. g.F.Fold.Leads c.args.fold.now ys c.args.fold.now) (none_before c.args.bits.now (integers_in d.column) (items_before d 0) none) (g.met.F.Fold.stays c.args.fold.now)

pub loop-j-preserved : goal.loop-j-preserved
loop-j-preserved g c =
    let d = c.args.reader.now in
    let bits = c.args.bits.now in
    let zs = integers_in d.column in
    let j = c.loop-j.j in
    let order : items_before d j ≤ items_before d (j + 1) = omega arith in
    subst (λ ys. g.F.Fold.Leads c.args.fold.now ys c.add_block.new.fold) (sym (kept_more bits zs (items_before d j) (items_before d (j + 1)) order))
    (g.met.F.Fold.joined c.args.fold.now c.loop-j.fold c.add_block.new.fold (kept (take (items_before d j) bits) (take (items_before d j) zs)) (kept (of_block d j bits) (of_block d j zs)) c.loop-j.invariant c.in_ok-add_block.ensures.gathered)

pub returns-clause-gathered : goal.returns-clause-gathered
returns-clause-gathered g c =
    let d = c.args.reader.now in
    let zs = integers_in d.column in
    let past = c.loop-j-test.false in
    let blocks = c.blocks-j-end.ensures in
    let long = length_integers d.column in
    let all : length zs ≤ items_before d c.loop-j.j = omega arith in
    subst (λ ys. g.F.Fold.Leads c.args.fold.now ys c.loop-j.fold) (prefix_kept c.args.bits.now zs (items_before d c.loop-j.j) all) c.loop-j.invariant
