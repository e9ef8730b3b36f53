use Rattle.std.proofs.Common.{◌≡◌, ◌+◌, ◌-◌, ◌∙◌, length, length-take, arith, sym}
use Rattle.std.proofs.Math.Path.{subst}
use Rattle.std.specs.Prelude.{OnOk}
use Rattle.fl_column.specs.Columns.{integers_in}
use Rattle.fl_scan.specs.Blocks.{items_before}
use Rattle.fl_scan.proofs.BlockLaws.{block_marked, block_unmarked}
use Rattle.fl_scan.proofs.blocks.add_block.Goals as goal

pub returns-then-count_between-eq0-clause-gathered : goal.returns-then-count_between-eq0-clause-gathered
returns-then-count_between-eq0-clause-gathered g c =
    let d = c.args.reader.now in
    let from = c.places-from.result.0 in
    let to = c.places-from.result.1 in
    let from_is = c.places-from.ensures.start in
    let to_is = c.places-from.ensures.end in
    let order = c.places-from.ensures.order in
    let inside = c.requires.block in
    let first : items_before d c.args.j ≡ from = omega arith in
    let last : items_before d (c.args.j + 1) ≡ from + (to - from) = omega arith in
    subst (λ ys. g.F.Fold.Leads c.args.fold.now ys c.args.fold.now) (block_unmarked c.args.bits.now (integers_in d.column) (items_before d c.args.j) (items_before d (c.args.j + 1)) from to first last (sym c.count_between.ensures ∙ c.if-count_between-eq0.true))
    (g.met.F.Fold.stays c.args.fold.now)

pub returns-clause-gathered : goal.returns-clause-gathered
returns-clause-gathered g c =
    let d = c.args.reader.now in
    let from = c.places-from.result.0 in
    let to = c.places-from.result.1 in
    let from_is = c.places-from.ensures.start in
    let to_is = c.places-from.ensures.end in
    let order = c.places-from.ensures.order in
    let inside = c.requires.block in
    let taken = length-take (to - from) c.args.scratch.now in
    let kept = c.read.auto.items in
    let long : length c.read.new.items ≡ to - from = omega arith in
    let first : items_before d c.args.j ≡ from = omega arith in
    let last : items_before d (c.args.j + 1) ≡ from + length c.read.new.items = omega arith in
    subst (λ ys. OnOk c.add_valid.result (g.F.Fold.Leads c.args.fold.now ys c.add_valid.new.fold))
    (block_marked g.T.Number.value c.args.bits.now c.read.new.items (items_before d c.args.j) (items_before d (c.args.j + 1)) from d.column c.requires.marks first last (omega arith) (λ i z h e. c.read.ensures i z (omega arith) e))
    c.add_valid.ensures.gathered
