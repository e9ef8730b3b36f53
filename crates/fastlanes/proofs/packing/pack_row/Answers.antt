use Rattle.std.proofs.Common.{◌+◌, ◌*◌, arith, rules, ◌∙◌, sym, refl}
use Rattle.fastlanes.specs.Layout.{pattern_at}
use Rattle.fastlanes.specs.Rows.{packed_word}
use Rattle.fastlanes.proofs.RowBits.{row_room}
use Rattle.fastlanes.proofs.Packings.{row_stays, row_fills, row_ends, row_goes_on, next_word_moves, next_word_stays}
use Rattle.fastlanes.proofs.RowWrites.{written_none, words_written, item_here}
use Rattle.fastlanes.proofs.packing.pack_row.Goals as goal

pub load-requires : goal.load-requires
load-requires g c =
    let within = row_room g.W.FastLanes.T g.W.FastLanes.LANES c.args.r (16 * c.args.g) g.met.W.FastLanes.shape c.requires.row c.requires.group.inside in
    (search rules, omega arith)

pub returns-then-shift-width-clause-begun : goal.returns-then-shift-width-clause-begun
returns-then-shift-width-clause-begun g c j h =
    row_stays g.W.FastLanes.T g.W.FastLanes.LANES c.args.width (pattern_at g.W.FastLanes.pattern c.args.items.now) c.args.r (16 * c.args.g + j) _ _ _ _ _ _ _ g.met.W.FastLanes.shape c.row_start-k.ensures.word c.row_start-k.ensures.bit (omega arith)
    (c.requires.begun j h) (c.load.ensures.lanes j h ∙ item_here (pattern_at g.W.FastLanes.pattern c.args.items.now) c.args.r c.args.g j _ c.pos.ensures) (rw (c.low_mask.ensures.lanes j h) at (c.and-row.ensures.lanes j h)) (c.shift_left.ensures.lanes j h) (c.or-both.ensures.lanes j h)

pub returns-then-shift-width-clause-words : goal.returns-then-shift-width-clause-words
returns-then-shift-width-clause-words g c =
    written_none c.args.width g.W.FastLanes.LANES _ (packed_word g.W.FastLanes.T c.args.width (pattern_at g.W.FastLanes.pattern c.args.items.now)) c.args.g _ _ (g.S.Storage.word c.args.packed.now)
    (next_word_stays g.W.FastLanes.T g.W.FastLanes.LANES c.args.width c.args.r _ g.met.W.FastLanes.shape c.row_start-k.ensures.bit (rw c.bits-t.ensures at c.if-shift-width.true))

pub returns-then-shift-width-2-clause-begun : goal.returns-then-shift-width-2-clause-begun
returns-then-shift-width-2-clause-begun g c j h =
    row_ends g.W.FastLanes.T g.W.FastLanes.LANES c.args.width (pattern_at g.W.FastLanes.pattern c.args.items.now) c.args.r (16 * c.args.g + j) _ _ g.met.W.FastLanes.shape c.requires.group.fits c.row_start-k.ensures.bit (omega arith) (c.splat.ensures.lanes j h ∙ c.zero.ensures)

pub returns-then-shift-width-2-clause-words : goal.returns-then-shift-width-2-clause-words
returns-then-shift-width-2-clause-words g c =
    words_written g.W.FastLanes.T g.W.FastLanes.LANES c.args.width (packed_word g.W.FastLanes.T c.args.width (pattern_at g.W.FastLanes.pattern c.args.items.now)) c.args.g c.row_start-k.result.0 _ _ _ (g.S.Storage.word c.args.packed.now) (g.S.Storage.word c.store.new.units) (g.W.FastLanes.lane c.or-both.result)
    g.met.W.FastLanes.shape c.requires.group.inside (sym c.row_start-k.ensures.word) (next_word_moves g.W.FastLanes.T g.W.FastLanes.LANES c.args.width c.args.r _ g.met.W.FastLanes.shape c.requires.group.fits c.row_start-k.ensures.bit (omega arith) ∙ rw c.row_start-k.ensures.word refl) c.group_start.ensures.place
    c.store.ensures.lanes c.store.ensures.others
    (λ j h. row_fills g.W.FastLanes.T g.W.FastLanes.LANES c.args.width (pattern_at g.W.FastLanes.pattern c.args.items.now) c.args.r (16 * c.args.g + j) _ _ _ _ _ _ _ g.met.W.FastLanes.shape c.row_start-k.ensures.word c.row_start-k.ensures.bit (omega arith)
    (c.requires.begun j h) (c.load.ensures.lanes j h ∙ item_here (pattern_at g.W.FastLanes.pattern c.args.items.now) c.args.r c.args.g j _ c.pos.ensures) (rw (c.low_mask.ensures.lanes j h) at (c.and-row.ensures.lanes j h)) (c.shift_left.ensures.lanes j h) (c.or-both.ensures.lanes j h))

pub returns-else-shift-width-2-clause-begun : goal.returns-else-shift-width-2-clause-begun
returns-else-shift-width-2-clause-begun g c j h =
    row_goes_on g.W.FastLanes.T g.W.FastLanes.LANES c.args.width (pattern_at g.W.FastLanes.pattern c.args.items.now) c.args.r (16 * c.args.g + j) _ _ _ _ g.met.W.FastLanes.shape c.requires.group.fits c.row_start-k.ensures.bit (omega arith)
    (c.load.ensures.lanes j h ∙ item_here (pattern_at g.W.FastLanes.pattern c.args.items.now) c.args.r c.args.g j _ c.pos.ensures) (rw (c.low_mask.ensures.lanes j h) at (c.and-row.ensures.lanes j h)) (rw c.bits-t.ensures at (c.shift_right.ensures.lanes j h))

pub returns-else-shift-width-2-clause-words : goal.returns-else-shift-width-2-clause-words
returns-else-shift-width-2-clause-words g c =
    words_written g.W.FastLanes.T g.W.FastLanes.LANES c.args.width (packed_word g.W.FastLanes.T c.args.width (pattern_at g.W.FastLanes.pattern c.args.items.now)) c.args.g c.row_start-k.result.0 _ _ _ (g.S.Storage.word c.args.packed.now) (g.S.Storage.word c.store.new.units) (g.W.FastLanes.lane c.or-both.result)
    g.met.W.FastLanes.shape c.requires.group.inside (sym c.row_start-k.ensures.word) (next_word_moves g.W.FastLanes.T g.W.FastLanes.LANES c.args.width c.args.r _ g.met.W.FastLanes.shape c.requires.group.fits c.row_start-k.ensures.bit (omega arith) ∙ rw c.row_start-k.ensures.word refl) c.group_start.ensures.place
    c.store.ensures.lanes c.store.ensures.others
    (λ j h. row_fills g.W.FastLanes.T g.W.FastLanes.LANES c.args.width (pattern_at g.W.FastLanes.pattern c.args.items.now) c.args.r (16 * c.args.g + j) _ _ _ _ _ _ _ g.met.W.FastLanes.shape c.row_start-k.ensures.word c.row_start-k.ensures.bit (omega arith)
    (c.requires.begun j h) (c.load.ensures.lanes j h ∙ item_here (pattern_at g.W.FastLanes.pattern c.args.items.now) c.args.r c.args.g j _ c.pos.ensures) (rw (c.low_mask.ensures.lanes j h) at (c.and-row.ensures.lanes j h)) (c.shift_left.ensures.lanes j h) (c.or-both.ensures.lanes j h))
