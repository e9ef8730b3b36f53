use Rattle.fl_patches.proofs.Comparisons.{wider_next}
use Rattle.fl_patches.proofs.comparing.count_wider.Goals as goal

pub loop-i-preserved : goal.loop-i-preserved
loop-i-preserved g c = wider_next g.T.NativePType.PTYPE g.T.Number.value c.args.items.now c.args.width c.loop-i.i c.loop-i.count c.from-count.result c.index-items-i.result c.is_wider.result c.loop-i-test.true c.index-items-i.is c.is_wider.ensures c.from-count.ensures c.loop-i.invariant
