use Rattle.std.proofs.Common.{◌+◌, ◌*◌, arith, ◌∙◌}
use Rattle.fastlanes.proofs.Steps.{item_of_zero, one_more, item_in_one, item_in_two}
use Rattle.fastlanes.proofs.unpacking.items_of_row.Goals as goal

pub returns-then-width-eq0 : goal.returns-then-width-eq0
returns-then-width-eq0 g c = record {
  items = λ j h.
      item_of_zero g.W.FastLanes.T g.W.FastLanes.LANES c.args.width (g.S.Storage.word c.args.words.now) c.args.r (16 * c.args.g + j) _ (omega arith) (c.splat.ensures.lanes j h ∙ c.zero.ensures);
}

pub group_start-requires-else-shift-width-clause-word :
    goal.group_start-requires-else-shift-width-clause-word
group_start-requires-else-shift-width-clause-word g c =
    one_more g.W.FastLanes.T g.W.FastLanes.LANES c.args.width c.args.r _ _ g.met.W.FastLanes.shape c.requires.row c.requires.group.fits (omega arith) c.row_start-k.ensures.word c.row_start-k.ensures.bit (omega arith)

pub returns-then-shift-width : goal.returns-then-shift-width
returns-then-shift-width g c = record {
  items = λ j h.
      item_in_one g.W.FastLanes.T g.W.FastLanes.LANES c.args.width (g.S.Storage.word c.args.words.now) c.args.r c.args.g j _ _ _ _ _ _ _ g.met.W.FastLanes.shape c.requires.group.fits c.row_start-k.ensures.word c.row_start-k.ensures.bit (omega arith)
      c.group_start.ensures.place (c.load.ensures.lanes j h) (c.shift_right-begun.ensures.lanes j h) (c.low_mask.ensures.lanes j h) (c.and.ensures.lanes j h);
}

pub returns-else-shift-width : goal.returns-else-shift-width
returns-else-shift-width g c = record {
  items = λ j h.
      item_in_two g.W.FastLanes.T g.W.FastLanes.LANES c.args.width (g.S.Storage.word c.args.words.now) c.args.r c.args.g j _ _ _ _ _ _ _ _ _ _ _ g.met.W.FastLanes.shape c.requires.group.fits c.row_start-k.ensures.word c.row_start-k.ensures.bit (omega arith)
      c.group_start.ensures.place c.group_start-else-shift-width.ensures.place (c.load.ensures.lanes j h) (c.load-else-shift-width.ensures.lanes j h) (c.load.ensures.small j h) (c.shift_right-begun.ensures.lanes j h) (rw c.bits-t.ensures at (c.shift_left-rest.ensures.lanes j h)) (c.or.ensures.lanes j h) (c.low_mask-else-shift-width.ensures.lanes j h) (c.and-else-shift-width.ensures.lanes j h);
}
