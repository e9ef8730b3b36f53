use Rattle.std.proofs.Common.{◌≡◌, ◌+◌, ◌<◌, ◌++◌, ◌∙◌, ℕ, ap, arith, drop, length}
use Rattle.fl_bitpacking.specs.Blocks.{value_at}
use Rattle.fl_bitpacking.proofs.Slices.{value_before, value_part}
use Rattle.fl_ops.proofs.by_blocks.take.picked_items.Goals as goal

pub returns-clause-picked : goal.returns-clause-picked
returns-clause-picked g c k z y h e low item =
    let value = g.T.Number.value in
    let picked = c.take_all.new.picked in
    let rest = drop (length picked) c.resize.new.self.items in
    let same = c.take_all.auto.picked in
    let whole = c.deref_mut.ensures.len in
    let grown = c.in_ok-resize.ensures.len in
    let all = c.len.ensures in
    let first : 0 + k ≡ k = omega arith in
    value_part value (picked ++ rest) 0 c.resize.new.self.len k (omega arith)
    ∙ (ap (λ (i : ℕ). value_at value (picked ++ rest) i) first ∙ (value_before value picked rest k (omega arith) ∙ c.in_ok-take_all.ensures k z y h e low item))
