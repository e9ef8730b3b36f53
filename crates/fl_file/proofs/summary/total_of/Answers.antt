use Rattle.std.proofs.Common.{arith, rules}
use Rattle.std.specs.Prelude.{FitsSigned}
use Rattle.std.specs.Int.{w128}
use Rattle.std.proofs.lemmas.Int.{to_z-of_z}
use Rattle.fl_file.proofs.SummaryLaws.{total_more}
use Rattle.fl_file.proofs.summary.total_of.Goals as goal

pub loop-item-preserved : goal.loop-item-preserved
loop-item-preserved g c =
    let next = total_more g.T.Number.value c.args.items.now c.loop-item.item-index c.item-item.result c.loop-item-test.true c.item-item.is in
    let so_far = c.loop-item.invariant.sum in
    let new = c.added-sum.ensures in
    let fit : FitsSigned w128 c.added-sum.result = search rules in
    rw (to_z-of_z w128 c.added-sum.result fit) (record { sum = cc; bound = omega (arith, new.bound, c.loop-item.invariant.bound) })
