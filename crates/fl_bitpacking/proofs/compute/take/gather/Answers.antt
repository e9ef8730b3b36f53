use Rattle.std.proofs.Common.{ℕ, get_or}
use Rattle.fl_bitpacking.specs.Blocks.{value_at}
use Rattle.fl_bitpacking.proofs.TakenLaws.{gathered_more}
use Rattle.fl_bitpacking.proofs.compute.take.gather.Goals as goal

pub loop-k-preserved : goal.loop-k-preserved
loop-k-preserved g c =
    let value = g.T.Number.value in
    let step = gathered_more value (λ (i : ℕ). value_at value c.args.items.now (get_or c.args.positions.now i 0)) c.loop-k.taken.items c.push.new.self.items c.read.result c.loop-k.k c.loop-k.invariant.long c.in_ok-push.ensures.items c.read.ensures c.loop-k.invariant.each in
    record { long = step.0; each = step.1 }
