use Rattle.std.proofs.Common.{◌+◌, map, rules, take}
use Rattle.fl_scan.specs.Raised.{raise}
use Rattle.fl_scan.specs.Totals.{total}
use Rattle.fl_scan.proofs.StepLaws.{halves_more, total_more}
use Rattle.fl_scan.proofs.folds.total.raised_halves.Goals as goal

pub loop-item-preserved : goal.loop-item-preserved
loop-item-preserved g c =
    let value = g.T.Number.value in
    let xs = c.args.items.now in
    let i = c.loop-item.item-index in
    let x = c.item-item.result in
    let so_far = c.loop-item.invariant in
    let more = total_more value xs i x c.loop-item-test.true c.item-item.is in
    halves_more (raise g.T.NativePType.PTYPE) c.loop-item.low c.loop-item.high c.raised-item.result i (value x) (total (take i (map value xs))) (total (take (i + 1) (map value xs))) c.raised-item.ensures more so_far.0 so_far.1.0 (search rules) so_far.1.1
