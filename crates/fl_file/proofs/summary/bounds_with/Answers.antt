use Rattle.std.specs.Int.{int_max, int_min}
use Rattle.fl_file.proofs.SummaryLaws.{fold_next}
use Rattle.fl_file.proofs.summary.bounds_with.Goals as goal

pub loop-item-preserved : goal.loop-item-preserved
loop-item-preserved g c =
    let value = g.T.Number.value in
    let xs = c.args.items.now in
    let i = c.loop-item.item-index in
    let x = c.item-item.result in
    record {
      least = fold_next value int_min xs i x (value c.args.first) (value c.loop-item.least) (value c.lesser-least.result) c.loop-item-test.true c.item-item.is c.lesser-least.ensures c.loop-item.invariant.least;
      greatest = fold_next value int_max xs i x (value c.args.first) (value c.loop-item.greatest) (value c.greater-greatest.result) c.loop-item-test.true c.item-item.is c.greater-greatest.ensures c.loop-item.invariant.greatest;
    }
