use Rattle.fastlanes.specs.Rows.{item_of_row}
use Rattle.fastlanes.proofs.ComparedBits.{answers_more}
use Rattle.fastlanes.proofs.compare.compare_row.Goals as goal

pub returns : goal.returns
returns g c = record {
  answers =
      answers_more g.W.FastLanes.pattern _ c.args.rhs (item_of_row g.W.FastLanes.T g.W.FastLanes.LANES c.args.width (g.S.Storage.word c.args.words.now)) c.args.g c.args.r
      (g.W.FastLanes.lane c.args.answers) (g.W.FastLanes.lane c.items_of_row-row.result) (g.W.FastLanes.lane c.compare_lanes.result) (g.W.FastLanes.lane c.or.result)
      c.requires.answers c.items_of_row-row.ensures.items c.compare_lanes.ensures.one c.compare_lanes.ensures.set c.or.ensures.lanes;
}
