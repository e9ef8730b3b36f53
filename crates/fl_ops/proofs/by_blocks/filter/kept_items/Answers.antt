use Rattle.std.proofs.Common.{◌≡◌, [], map, subst, ap, sym, ℕ, arith, length, refl}
use Rattle.fl_ops.specs.BlockReads.{AreKept, items_before}
use Rattle.fl_ops.proofs.ReadLists.{first_none, kept_none_yet}
use Rattle.fl_ops.proofs.by_blocks.filter.kept_items.Goals as goal

pub loop-j-init : goal.loop-j-init
loop-j-init g c = kept_none_yet g.T.Number.value c.args.bits.now c.in_ok-taken.taken.items (items_before c.args.reader.now 0) c.args.reader.now.column c.in_ok-taken.ensures.items (omega arith)

pub returns : goal.returns
returns g c =
    let d = c.args.reader.now in
    let past = c.loop-j-test.false in
    let blocks = c.blocks-j-end.ensures in
    let all : items_before d c.loop-j.j ≡ length d.column.items = omega arith in
    subst (λ (n : ℕ). AreKept c.args.bits.now (map g.T.Number.value c.loop-j.taken.items) n d.column) all c.loop-j.invariant
