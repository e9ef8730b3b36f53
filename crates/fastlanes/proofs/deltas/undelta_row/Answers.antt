use Rattle.std.proofs.Common.{◌+◌, ◌*◌, arith, rules}
use Rattle.fastlanes.specs.Layout.{pattern_at}
use Rattle.fastlanes.specs.Delta.{summed_item}
use Rattle.fastlanes.proofs.RowBits.{row_room}
use Rattle.fastlanes.proofs.RowWrites.{row_written}
use Rattle.fastlanes.proofs.DeltaRows.{sum_is_item}
use Rattle.fastlanes.proofs.deltas.undelta_row.Goals as goal

pub returns-clause-sums : goal.returns-clause-sums
returns-clause-sums g c = c.sum_row-row.ensures

pub returns-clause-written : goal.returns-clause-written
returns-clause-written g c =
    row_written g.W.FastLanes.T g.W.FastLanes.LANES (summed_item g.W.FastLanes.T (pattern_at g.W.FastLanes.pattern c.args.bases.now) (pattern_at g.W.FastLanes.pattern c.args.deltas.now)) c.args.g c.args.r _
    (pattern_at g.W.FastLanes.pattern c.args.items.now) (pattern_at g.W.FastLanes.pattern c.store.new.words) (g.W.FastLanes.lane c.sum_row-row.result)
    g.met.W.FastLanes.shape c.requires.row c.requires.group c.pos.ensures c.store.ensures.lanes c.store.ensures.others
    (λ j h. sum_is_item g.W.FastLanes.T (pattern_at g.W.FastLanes.pattern c.args.bases.now) (pattern_at g.W.FastLanes.pattern c.args.deltas.now) c.args.r (16 * c.args.g + j) _ (c.sum_row-row.ensures j h))

pub store-requires : goal.store-requires
store-requires g c =
    let within = row_room g.W.FastLanes.T g.W.FastLanes.LANES c.args.r (16 * c.args.g) g.met.W.FastLanes.shape c.requires.row c.requires.group in
    (search rules, omega arith)
