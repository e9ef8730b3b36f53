use Rattle.fl_scan.proofs.CountingLaws.{each_more}
use Rattle.fl_scan.proofs.counting.count_each.Goals as goal

pub loop-item-preserved : goal.loop-item-preserved
loop-item-preserved g c = each_more g.T.Number.value (g.P.ItemTest.passing c.args.test) c.args.items.now c.item-item.result c.loop-item.item-index c.loop-item.count c.passes.result c.loop-item-test.true c.item-item.is c.passes.ensures c.loop-item.invariant
