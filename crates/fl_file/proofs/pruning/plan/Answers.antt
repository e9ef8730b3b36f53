use Rattle.fl_file.proofs.PlanLaws.{plan_more}
use Rattle.fl_file.proofs.pruning.plan.Goals as goal

pub loop-chunk-preserved : goal.loop-chunk-preserved
loop-chunk-preserved c =
    rw c.in_ok-push.ensures.items (plan_more c.args.test.now c.args.chunks.now c.loop-chunk.chunk-index _ c.loop-chunk.plan.items c.prune.result c.loop-chunk-test.true c.loop-chunk.invariant
    (record { sound = c.prune.ensures.sound; no_item = c.prune.ensures.no_item; exact = c.prune.ensures.exact }))
