use Rattle.std.proofs.Common.{◌+◌, ◌*◌, arith, rules}
use Rattle.fastlanes.specs.Layout.{pattern_at}
use Rattle.fastlanes.specs.Rows.{item_with_reference}
use Rattle.fastlanes.proofs.RowBits.{row_room}
use Rattle.fastlanes.proofs.RowWrites.{row_written, sum_here}
use Rattle.fastlanes.proofs.Steps.{item_small}
use Rattle.fastlanes.proofs.unpacking.unpack_row.Goals as goal

pub store-requires : goal.store-requires
store-requires g c = let within = row_room g.W.FastLanes.T g.W.FastLanes.LANES c.args.r (16 * c.args.g) g.met.W.FastLanes.shape c.requires.row c.requires.group.inside in (search rules, omega arith)

pub returns : goal.returns
returns g c = record {
  written = row_written g.W.FastLanes.T g.W.FastLanes.LANES (item_with_reference g.W.FastLanes.T g.W.FastLanes.LANES c.args.width (g.S.Storage.word c.args.words.now) (g.W.FastLanes.lane c.args.reference)) c.args.g c.args.r _ (pattern_at g.W.FastLanes.pattern c.args.items.now) (pattern_at g.W.FastLanes.pattern c.store.new.words) (g.W.FastLanes.lane c.add_reference-row.result)
      g.met.W.FastLanes.shape c.requires.row c.requires.group.inside c.pos.ensures c.store.ensures.lanes c.store.ensures.others
      (λ j h. sum_here g.W.FastLanes.T g.W.FastLanes.LANES c.args.width (g.S.Storage.word c.args.words.now) (g.W.FastLanes.lane c.args.reference) c.args.r c.args.g j _ _ h (c.items_of_row.ensures.items j h) (c.add_reference-row.ensures.lanes j h));
}

pub add_reference-row-requires : goal.add_reference-row-requires
add_reference-row-requires g c = (search rules, (c.requires.reference, λ j h. rw (c.items_of_row.ensures.items j h) (item_small g.W.FastLanes.T g.W.FastLanes.LANES c.args.width (g.S.Storage.word c.args.words.now) c.args.r (16 * c.args.g + j) c.requires.group.fits)))
