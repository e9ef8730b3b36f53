use Rattle.std.proofs.Common.{◌+◌, ◌*◌, ◌∙◌, refl}
use Rattle.fastlanes.specs.Layout.{pattern_at}
use Rattle.fastlanes.proofs.Segments.{runs_more, runs_kept}
use Rattle.fastlanes.proofs.deltas.items.store_runs.Goals as goal

pub loop-j-preserved : goal.loop-j-preserved
loop-j-preserved g c = record {
  runs = runs_more (λ n k. pattern_at g.W.FastLanes.pattern c.args.turned.now (4 * n + k)) _ _ c.args.at c.loop-j.j (c.loop-j.j + 1) c.requires refl c.loop-j.invariant.runs c.store_run.ensures.run c.store_run.ensures.others;
  others = λ i away. c.store_run.ensures.others i (runs_kept c.args.at c.loop-j.j i c.requires away) ∙ c.loop-j.invariant.others i away;
}
