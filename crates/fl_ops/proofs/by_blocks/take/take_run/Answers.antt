use Rattle.std.proofs.Common.{◌≡◌, ◌+◌, ◌-◌, ℕ, arith, length, length-take}
use Rattle.fl_bitpacking.specs.Blocks.{value_at}
use Rattle.fl_ops.specs.TakenItems.{ArePicked}
use Rattle.fl_ops.proofs.PickedItems.{run_picked}
use Rattle.fl_ops.proofs.by_blocks.take.take_run.Goals as goal

pub returns-clause-picked : goal.returns-clause-picked
returns-clause-picked g c =
    let value = g.T.Number.value in
    let run = c.run_from-run.result in
    let column = c.args.reader.now.column in
    let indices = c.args.indices.now.items in
    let order = c.run_from-run.ensures.order in
    let few = c.run_from-run.ensures.few in
    let taken = length-take (run.high - run.low) c.args.scratch.now in
    let kept = c.read.auto.items in
    let size : run.low + length c.read.new.items ≡ run.high = omega arith in
    let begun : ArePicked (value_at value c.args.picked.now) indices run.from (length column.items) column = rw c.run_from-run.ensures.first c.requires.begun in
    run_picked (value_at value c.args.picked.now) (value_at value c.pick.new.picked) (value_at value c.read.new.items) indices run (length c.read.new.items) (length column.items) column c.run_from-run.ensures.run size
    (λ i z h e. c.read.ensures i z (omega arith) e) c.pick.ensures.here c.pick.ensures.before begun
