use Rattle.std.proofs.Common.{◌≡◌, ◌+◌, ◌*◌, ◌/◌, ◌%◌, ◌∙◌, ap, arith}
use Rattle.fastlanes.specs.Layout.{pattern_at}
use Rattle.fastlanes.proofs.deltas.items.store_turned.Goals as goal

pub returns-clause-lanes : goal.returns-clause-lanes
returns-clause-lanes g c j k p q =
    let lane : (4 * j + k) / 4 + 16 * ((4 * j + k) % 4) ≡ 16 * k + j = omega arith in
    c.store_runs.ensures.runs j k p q ∙ (c.turn_rows.ensures (4 * j + k) (omega arith) ∙ ap (pattern_at g.W.FastLanes.pattern c.args.rows.now) lane)
