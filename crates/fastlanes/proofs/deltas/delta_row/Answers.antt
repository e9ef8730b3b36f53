use Rattle.std.proofs.Common.{◌+◌, ◌*◌, ◌∙◌, sym, arith, rules}
use Rattle.fastlanes.specs.Layout.{pattern_at}
use Rattle.fastlanes.specs.Delta.{item_delta}
use Rattle.fastlanes.proofs.RowBits.{row_room}
use Rattle.fastlanes.proofs.RowWrites.{row_written, item_here}
use Rattle.fastlanes.proofs.DeltaRows.{before_more, delta_here}
use Rattle.fastlanes.proofs.deltas.delta_row.Goals as goal

pub returns-clause-before : goal.returns-clause-before
returns-clause-before g c j h =
    c.load-row.ensures.lanes j h ∙ (item_here (pattern_at g.W.FastLanes.pattern c.args.items.now) c.args.r c.args.g j _ c.pos-at.ensures
    ∙ sym (before_more (pattern_at g.W.FastLanes.pattern c.args.bases.now) (pattern_at g.W.FastLanes.pattern c.args.items.now) c.args.r (16 * c.args.g + j)))

pub returns-clause-written : goal.returns-clause-written
returns-clause-written g c =
    row_written g.W.FastLanes.T g.W.FastLanes.LANES (item_delta g.W.FastLanes.T (pattern_at g.W.FastLanes.pattern c.args.bases.now) (pattern_at g.W.FastLanes.pattern c.args.items.now)) c.args.g c.args.r _
    (pattern_at g.W.FastLanes.pattern c.args.deltas.now) (pattern_at g.W.FastLanes.pattern c.store.new.words) (g.W.FastLanes.lane c.sub.result)
    g.met.W.FastLanes.shape c.requires.row c.requires.group c.pos-at.ensures c.store.ensures.lanes c.store.ensures.others
    (λ j h. delta_here g.W.FastLanes.T (pattern_at g.W.FastLanes.pattern c.args.bases.now) (pattern_at g.W.FastLanes.pattern c.args.items.now) c.args.r c.args.g j _ _ _ _
    c.pos-at.ensures (c.load-row.ensures.lanes j h) (c.requires.before j h) (c.sub.ensures.lanes j h))

pub load-row-requires : goal.load-row-requires
load-row-requires g c =
    let within = row_room g.W.FastLanes.T g.W.FastLanes.LANES c.args.r (16 * c.args.g) g.met.W.FastLanes.shape c.requires.row c.requires.group in
    (search rules, omega arith)

pub store-requires : goal.store-requires
store-requires g c =
    let within = row_room g.W.FastLanes.T g.W.FastLanes.LANES c.args.r (16 * c.args.g) g.met.W.FastLanes.shape c.requires.row c.requires.group in
    (search rules, omega arith)
