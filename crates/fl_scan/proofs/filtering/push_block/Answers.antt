use Rattle.std.proofs.Common.{◌≡◌, ◌+◌, ◌-◌, ◌++◌, ◌∙◌, append-nil, ap, drop, length, length-take, map, arith, sym, subst}
use Rattle.std.specs.Prelude.{OnOk}
use Rattle.fl_types.specs.Bits.{kept}
use Rattle.fl_column.specs.Columns.{integers_in}
use Rattle.fl_scan.specs.Blocks.{items_before, of_block}
use Rattle.fl_scan.proofs.BlockLaws.{block_marked, block_unmarked}
use Rattle.fl_scan.proofs.PassingLaws.{block_taken, bits_covered}
use Rattle.fl_scan.proofs.filtering.push_block.Goals as goal

pub count_between-requires : goal.count_between-requires
count_between-requires g c =
    let d = c.args.reader.now in
    let from_is = c.places-from.ensures.start in
    let to_is = c.places-from.ensures.end in
    let order = c.places-from.ensures.order in
    let long = bits_covered c.args.bits.now d.column c.requires.marks in
    omega arith

pub push_kept-requires : goal.push_kept-requires
push_kept-requires g c =
    let d = c.args.reader.now in
    let from = c.places-from.result.0 in
    let to = c.places-from.result.1 in
    let from_is = c.places-from.ensures.start in
    let to_is = c.places-from.ensures.end in
    let order = c.places-from.ensures.order in
    let long = bits_covered c.args.bits.now d.column c.requires.marks in
    let taken = length-take (to - from) c.args.scratch.now in
    let kept = c.read.auto.items in
    omega arith

pub returns-then-count_between-eq0-clause-taken : goal.returns-then-count_between-eq0-clause-taken
returns-then-count_between-eq0-clause-taken g c =
    let d = c.args.reader.now in
    let from = c.places-from.result.0 in
    let to = c.places-from.result.1 in
    let from_is = c.places-from.ensures.start in
    let to_is = c.places-from.ensures.end in
    let order = c.places-from.ensures.order in
    let inside = c.requires.block in
    let first : items_before d c.args.j ≡ from = omega arith in
    let last : items_before d (c.args.j + 1) ≡ from + (to - from) = omega arith in
    let old = map g.T.Number.value c.args.taken.now.items in
    sym (append-nil old) ∙ ap (λ ys. old ++ ys) (block_unmarked c.args.bits.now (integers_in d.column) (items_before d c.args.j) (items_before d (c.args.j + 1)) from to first last (sym c.count_between.ensures ∙ c.if-count_between-eq0.true))

pub returns-clause-taken : goal.returns-clause-taken
returns-clause-taken g c =
    let d = c.args.reader.now in
    let from = c.places-from.result.0 in
    let to = c.places-from.result.1 in
    let from_is = c.places-from.ensures.start in
    let to_is = c.places-from.ensures.end in
    let order = c.places-from.ensures.order in
    let inside = c.requires.block in
    let all = bits_covered c.args.bits.now d.column c.requires.marks in
    let taken = length-take (to - from) c.args.scratch.now in
    let kept = c.read.auto.items in
    let xs = c.read.new.items in
    let long : length xs ≡ to - from = omega arith in
    let first : items_before d c.args.j ≡ from = omega arith in
    let last : items_before d (c.args.j + 1) ≡ from + length xs = omega arith in
    block_taken g.T.Number.value c.args.bits.now c.args.taken.now.items c.push_kept.new.taken.items xs from (items_before d c.args.j) (items_before d (c.args.j + 1)) (integers_in d.column) c.in_ok-push_kept.ensures (omega arith)
    (block_marked g.T.Number.value c.args.bits.now xs (items_before d c.args.j) (items_before d (c.args.j + 1)) from d.column c.requires.marks first last (omega arith) (λ i z h e. c.read.ensures i z (omega arith) e))
