use Rattle.std.proofs.Common.{◌≡◌, ◌+◌, ◌-◌, ◌≤◌, length, length-take, map, arith, sym, take}
use Rattle.std.proofs.Math.Path.{subst}
use Rattle.std.proofs.lemmas.List.{take_all}
use Rattle.fl_column.specs.Columns.{integers_in}
use Rattle.fl_bitpacking.specs.Blocks.{value_at}
use Rattle.fl_array.specs.Readers.{AreItemsFrom}
use Rattle.fl_scan.specs.Blocks.{items_before}
use Rattle.fl_scan.proofs.BlockLaws.{block_whole, length_integers, none_taken}
use Rattle.fl_scan.proofs.blocks.add_each.Goals as goal

pub loop-j-init : goal.loop-j-init
loop-j-init g c =
    let d = c.args.reader.now in
    let none : items_before d 0 ≡ 0 = omega arith in
    subst (λ ys. g.F.Fold.Leads c.args.fold.now ys c.args.fold.now) (none_taken (integers_in d.column) (items_before d 0) none) (g.met.F.Fold.stays c.args.fold.now)

pub loop-j-preserved : goal.loop-j-preserved
loop-j-preserved g c =
    let d = c.args.reader.now in
    let zs = integers_in d.column in
    let value = g.T.Number.value in
    let j = c.loop-j.j in
    let from = c.places-from.result.0 in
    let to = c.places-from.result.1 in
    let from_is = c.places-from.ensures.start in
    let to_is = c.places-from.ensures.end in
    let order = c.places-from.ensures.order in
    let more = c.loop-j-test.true in
    let blocks = c.blocks-j-end.ensures in
    let taken = length-take (to - from) c.loop-j.scratch in
    let kept = c.read.auto.items in
    let xs = c.read.new.items in
    let long : length xs ≡ to - from = omega arith in
    let first : items_before d j ≡ from = omega arith in
    let last : items_before d (j + 1) ≡ items_before d j + length xs = omega arith in
    let next = block_whole value xs (items_before d j) (items_before d (j + 1)) d.column c.requires.marks (omega arith) last (omega arith) (subst (λ s. AreItemsFrom s (length xs) (value_at value xs) d.column) (sym first) (λ i z h e. c.read.ensures i z (omega arith) e)) in
    subst (λ ys. g.F.Fold.Leads c.args.fold.now ys c.add_all.new.self) (sym next)
    (g.met.F.Fold.joined c.args.fold.now c.loop-j.fold c.add_all.new.self (take (items_before d j) zs) (map value xs) c.loop-j.invariant c.in_ok-add_all.ensures.gathered)

pub returns-clause-gathered : goal.returns-clause-gathered
returns-clause-gathered g c =
    let d = c.args.reader.now in
    let zs = integers_in d.column in
    let past = c.loop-j-test.false in
    let blocks = c.blocks-j-end.ensures in
    let long = length_integers d.column in
    let all : length zs ≤ items_before d c.loop-j.j = omega arith in
    subst (λ ys. g.F.Fold.Leads c.args.fold.now ys c.loop-j.fold) (take_all (items_before d c.loop-j.j) zs all) c.loop-j.invariant
