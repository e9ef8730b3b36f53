use Rattle.fastlanes.proofs.Bijection.{position_placed}
use Rattle.fastlanes.proofs.single_items.row_and_lane.Goals as goal

pub returns-clause-row : goal.returns-clause-row
returns-clause-row g c =
    let placed = position_placed _ _ c.args.index g.met.W.FastLanes.shape c.requires in
    rw (c.row.ensures, c.LANES.ensures) placed.1

pub returns-clause-lane : goal.returns-clause-lane
returns-clause-lane g c =
    let placed = position_placed _ _ c.args.index g.met.W.FastLanes.shape c.requires in
    rw c.LANES-2.ensures placed.2

pub returns-clause-place : goal.returns-clause-place
returns-clause-place g c =
    let placed = position_placed _ _ c.args.index g.met.W.FastLanes.shape c.requires in
    rw (c.row.ensures, c.LANES.ensures, c.LANES-2.ensures) placed.0
