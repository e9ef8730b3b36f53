use Rattle.std.proofs.Common.{◌≡◌, ◌+◌, ◌<◌, ◌≤◌, ℕ, ℤ, None, Some, arith, get_or, length, length-take, unsigned_abs}
use Rattle.fl_bitpacking.specs.Blocks.{value_at}
use Rattle.fl_ops.proofs.PickedItems.{window_picked}
use Rattle.fl_ops.proofs.by_blocks.take.take_window.Goals as goal

pub returns-clause-picked : goal.returns-clause-picked
returns-clause-picked g c =
    let value = g.T.Number.value in
    let column = c.args.reader.now.column in
    let indices = c.args.indices.now.items in
    let count = c.min-count.result in
    let least = c.min-count.ensures in
    let window = c.requires.window in
    let taken = length-take count c.args.window.now in
    let kept = c.read.auto.items in
    let size : length c.read.new.items ≡ count = omega arith in
    let all = c.len.ensures in
    window_picked (value_at value c.args.picked.now) (value_at value c.pick.new.picked) (value_at value c.read.new.items) indices c.args.low count (length indices) column
    (λ i z h e. c.read.ensures i z (omega arith) e) (λ k z from to e low high. c.pick.ensures.here k z from (omega arith) e low (omega arith)) c.pick.ensures.below c.requires.begun
