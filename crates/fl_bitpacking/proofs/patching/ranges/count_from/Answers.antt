use Rattle.std.proofs.Common.{arith}
use Rattle.fl_bitpacking.proofs.PartPatches.{counted_next, counted_to}
use Rattle.fl_bitpacking.proofs.patching.ranges.count_from.Goals as goal

pub returns-then-number_at-limit : goal.returns-then-number_at-limit
returns-then-number_at-limit g c =
    let number = c.number_at.ensures in
    let above = c.if-number_at-limit.true in
    counted_to g.I.Number.value c.args.indices.now c.loop-k.k c.args.limit c.requires.rising c.loop-k-test.true (omega arith) c.loop-k.invariant

pub loop-k-preserved : goal.loop-k-preserved
loop-k-preserved g c =
    let number = c.number_at.ensures in
    let below = c.if-number_at-limit.false in
    counted_next g.I.Number.value c.args.indices.now c.loop-k.k c.args.limit c.requires.rising c.loop-k-test.true (omega arith)
