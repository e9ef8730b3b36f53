use Rattle.std.proofs.Common.{◌≡◌, ◌-◌, ◌<◌, ◌∙◌, ℕ, None, ap, arith, get_or, length, refl, sym, unsigned_abs}
use Rattle.fl_bitpacking.specs.Blocks.{value_at}
use Rattle.fl_bitpacking.proofs.Natives.{value_at_read, value_at_set_other, value_at_set_same}
use Rattle.fl_ops.proofs.PickedItems.{position_is}
use Rattle.fl_ops.proofs.by_blocks.take.pick_one.Goals as goal

pub returns-then-position-low-clause-here : goal.returns-then-position-low-clause-here
returns-then-position-low-clause-here g c z e low high =
    let value = g.T.Number.value in
    let read = c.args.read.now in
    let at = c.in-Some.position - c.args.low in
    let place : unsigned_abs z ≡ c.in-Some.position = position_is (get_or c.args.indices.now.items c.args.k None) z c.in-Some.position c.in-Some.ensures e in
    let long = c.requires.long in
    let within = c.requires.range in
    let inside : c.args.k < length c.args.picked.now = omega arith in
    let below : at < length read = c.if-position-low.true in
    value_at_set_same value c.args.picked.now c.args.k c.args.k c.index-read-position.result refl inside
    ∙ (sym (value_at_read value read at c.index-read-position.result below c.index-read-position.is) ∙ ap (λ (n : ℕ). value_at value read (n - c.args.low)) (sym place))

pub returns-then-position-low-clause-before : goal.returns-then-position-low-clause-before
returns-then-position-low-clause-before g c i h = value_at_set_other g.T.Number.value c.args.picked.now c.args.k i c.index-read-position.result (λ e. omega arith)

pub returns-then-position-low-clause-after : goal.returns-then-position-low-clause-after
returns-then-position-low-clause-after g c i h = value_at_set_other g.T.Number.value c.args.picked.now c.args.k i c.index-read-position.result (λ e. omega arith)
