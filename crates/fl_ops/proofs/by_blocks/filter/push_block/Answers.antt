use Rattle.std.proofs.Common.{◌≡◌, ◌+◌, ◌-◌, ◌∙◌, length, map, sym, subst, ℕ, arith, length-take}
use Rattle.fl_types.specs.Bits.{between, true_count}
use Rattle.fl_ops.specs.BlockReads.{AreKept, items_before}
use Rattle.fl_ops.proofs.ReadLists.{kept_pushed, kept_skipped}
use Rattle.fl_ops.proofs.by_blocks.filter.push_block.Goals as goal

pub returns-then-count-eq0 : goal.returns-then-count-eq0
returns-then-count-eq0 g c =
    let d = c.args.reader.now in
    let bits = c.args.bits.now in
    let from = c.places-from.result.0 in
    let size = c.places-from.result.1 - c.places-from.result.0 in
    let from_is = c.places-from.ensures.start in
    let to_is = c.places-from.ensures.end in
    let order = c.places-from.ensures.order in
    let inside = c.requires.block in
    let here : items_before d c.args.j ≡ from = omega arith in
    let next : from + size ≡ items_before d (c.args.j + 1) = omega arith in
    kept_skipped bits (map g.T.Number.value c.args.taken.now.items) from size (items_before d (c.args.j + 1)) d.column next (omega arith) c.requires.long (sym c.count_between-count.ensures ∙ c.if-count-eq0.true)
    (subst (λ (n : ℕ). AreKept bits (map g.T.Number.value c.args.taken.now.items) n d.column) here c.requires.begun)

pub returns : goal.returns
returns g c =
    let d = c.args.reader.now in
    let from = c.places-from.result.0 in
    let size = c.places-from.result.1 - c.places-from.result.0 in
    let from_is = c.places-from.ensures.start in
    let to_is = c.places-from.ensures.end in
    let order = c.places-from.ensures.order in
    let inside = c.requires.block in
    let taken = length-take size c.args.scratch.now in
    let kept = c.read.auto.items in
    let long : length c.read.new.items ≡ size = omega arith in
    let here : items_before d c.args.j ≡ from = omega arith in
    let next : from + size ≡ items_before d (c.args.j + 1) = omega arith in
    kept_pushed g.T.Number.value c.args.bits.now c.args.taken.now.items c.push_kept.new.taken.items c.read.new.items from size (items_before d (c.args.j + 1)) d.column next long
    (λ i z h e. c.read.ensures i z (omega arith) e) c.in_ok-push_kept.ensures
    (subst (λ (n : ℕ). AreKept c.args.bits.now (map g.T.Number.value c.args.taken.now.items) n d.column) here c.requires.begun)
