use Rattle.std.proofs.Common.{◌≡◌, ◌+◌, ◌-◌, ◌∙◌, ℕ, arith, length, length-take, map, subst}
use Rattle.fl_ops.specs.BlockReads.{AreCast, items_before}
use Rattle.fl_ops.proofs.CastReads.{cast_none_yet}
use Rattle.fl_ops.proofs.by_blocks.cast.push_all.Goals as goal

pub loop-j-init : goal.loop-j-init
loop-j-init g c = cast_none_yet g.T.Number.value g.T.NativePType.PTYPE c.args.cast.now.items (items_before c.args.reader.now 0) c.args.reader.now.column c.requires.empty (omega arith)

pub push_part-requires-clause-begun : goal.push_part-requires-clause-begun
push_part-requires-clause-begun g c =
    let d = c.args.reader.now in
    let from_is = c.places-from.ensures.start in
    let to_is = c.places-from.ensures.end in
    let order = c.places-from.ensures.order in
    let more = c.loop-j-test.true in
    let blocks = c.blocks-j-end.ensures in
    let here : items_before d c.loop-j.j ≡ c.places-from.result.0 = omega arith in
    subst (λ (n : ℕ). AreCast g.T.NativePType.PTYPE (map g.T.Number.value c.loop-j.cast.items) n d.column) here c.loop-j.invariant

pub loop-j-preserved : goal.loop-j-preserved
loop-j-preserved g c =
    let d = c.args.reader.now in
    let size = c.places-from.result.1 - c.places-from.result.0 in
    let from_is = c.places-from.ensures.start in
    let to_is = c.places-from.ensures.end in
    let order = c.places-from.ensures.order in
    let more = c.loop-j-test.true in
    let blocks = c.blocks-j-end.ensures in
    let taken = length-take size c.loop-j.scratch in
    let kept = c.read.auto.items in
    let next : c.places-from.result.0 + length c.read.new.items ≡ items_before d (c.loop-j.j + 1) = omega arith in
    subst (λ (n : ℕ). AreCast g.T.NativePType.PTYPE (map g.T.Number.value c.push_part.new.cast.items) n d.column) next (c.in_ok-fit.ensures.cast c.if-not-fit.false)

pub returns-clause-cast : goal.returns-clause-cast
returns-clause-cast g c =
    λ fit.
    let d = c.args.reader.now in
    let past = c.loop-j-test.false in
    let blocks = c.blocks-j-end.ensures in
    let all : items_before d c.loop-j.j ≡ length d.column.items = omega arith in
    subst (λ (n : ℕ). AreCast g.T.NativePType.PTYPE (map g.T.Number.value c.loop-j.cast.items) n d.column) all c.loop-j.invariant
