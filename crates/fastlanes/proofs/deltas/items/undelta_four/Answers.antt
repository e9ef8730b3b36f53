use Rattle.std.proofs.Common.{◌+◌, ap, arith, rules}
use Rattle.fastlanes.specs.Layout.{pattern_at}
use Rattle.fastlanes.specs.Delta.{summed_item}
use Rattle.fastlanes.proofs.Segments.{first_inside, four_written}
use Rattle.fastlanes.proofs.deltas.items.undelta_four.Goals as goal

pub overflow_add-seg : goal.overflow_add-seg
overflow_add-seg g c =
    let room = first_inside g.W.FastLanes.T g.W.FastLanes.LANES c.args.g g.met.W.FastLanes.shape c.requires.group in
    let rows = c.requires.row in
    let from = c.seg.ensures in
    omega arith

pub store_rows-requires : goal.store_rows-requires
store_rows-requires g c =
    let room = first_inside g.W.FastLanes.T g.W.FastLanes.LANES c.args.g g.met.W.FastLanes.shape c.requires.group in
    let rows = c.requires.row in
    let from = c.seg.ensures in
    (search rules, omega arith)

pub returns-clause-written : goal.returns-clause-written
returns-clause-written g c =
    four_written g.W.FastLanes.T g.W.FastLanes.LANES (summed_item g.W.FastLanes.T (pattern_at g.W.FastLanes.pattern c.args.bases.now) (pattern_at g.W.FastLanes.pattern c.args.deltas.now)) c.args.g c.args.r _ _ (pattern_at g.W.FastLanes.pattern c.args.items.now) (pattern_at g.W.FastLanes.pattern c.store_rows.new.items)
    g.met.W.FastLanes.shape c.requires.row c.requires.group (ap (λ n. n + c.args.r) c.seg.ensures)
    c.sum_four-sums.ensures.rows c.store_rows.ensures.lanes c.store_rows.ensures.others
