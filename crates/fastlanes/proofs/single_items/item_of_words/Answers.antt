use Rattle.std.proofs.Common.{arith}
use Rattle.fastlanes.specs.Layout.{pattern_at}
use Rattle.fastlanes.proofs.Steps.{one_more}
use Rattle.fastlanes.proofs.SingleItems.{single_none, single_in_one, single_in_two, one_word_read, two_words_read, words_at_none, words_at_some}
use Rattle.fastlanes.proofs.single_items.item_of_words.Goals as goal

pub returns-then-width-eq0-clause-item : goal.returns-then-width-eq0-clause-item
returns-then-width-eq0-clause-item g c = single_none g.W.FastLanes.T g.W.FastLanes.LANES c.args.width (pattern_at g.W.FastLanes.pattern c.args.words.now) c.args.index _ (omega arith) c.zero.ensures

pub word_of_words-requires-clause-word : goal.word_of_words-requires-clause-word
word_of_words-requires-clause-word g c =
    one_more g.W.FastLanes.T g.W.FastLanes.LANES c.args.width c.row_and_lane-r.result.0 _ _ g.met.W.FastLanes.shape c.row_and_lane-r.ensures.row c.requires.width (omega arith) c.row_start-k.ensures.word c.row_start-k.ensures.bit (omega arith)

pub returns-then-shift-width-clause-item : goal.returns-then-shift-width-clause-item
returns-then-shift-width-clause-item g c =
    single_in_one g.W.FastLanes.T g.W.FastLanes.LANES c.args.width (pattern_at g.W.FastLanes.pattern c.args.words.now) c.args.index _ _ _ _ _ _ g.met.W.FastLanes.shape c.requires.width c.row_and_lane-r.ensures.value.0 c.row_and_lane-r.ensures.value.1
    c.row_start-k.ensures.word c.row_start-k.ensures.bit (omega arith) c.word_of_words-low.ensures.word c.bits_from.ensures

pub returns-then-shift-width-clause-words : goal.returns-then-shift-width-clause-words
returns-then-shift-width-clause-words g c =
    let some = words_at_some g.W.FastLanes.T g.W.FastLanes.LANES c.args.width c.args.index (omega arith) in
    let read = one_word_read g.W.FastLanes.T g.W.FastLanes.LANES c.args.width c.args.index c.row_and_lane-r.result.0 _ g.met.W.FastLanes.shape (omega arith) c.row_and_lane-r.ensures.value.0 c.row_start-k.ensures.bit (omega arith) in
    rw (some, read) (omega arith)

pub returns-else-shift-width-clause-item : goal.returns-else-shift-width-clause-item
returns-else-shift-width-clause-item g c =
    single_in_two g.W.FastLanes.T g.W.FastLanes.LANES c.args.width (pattern_at g.W.FastLanes.pattern c.args.words.now) c.args.index _ _ _ _ _ _ _ g.met.W.FastLanes.shape c.requires.width c.row_and_lane-r.ensures.value.0 c.row_and_lane-r.ensures.value.1
    c.row_start-k.ensures.word c.row_start-k.ensures.bit (omega arith) c.word_of_words-low.ensures.small c.word_of_words-low.ensures.word c.word_of_words.ensures.word c.bits_across.ensures

pub returns-else-shift-width-clause-words : goal.returns-else-shift-width-clause-words
returns-else-shift-width-clause-words g c =
    let some = words_at_some g.W.FastLanes.T g.W.FastLanes.LANES c.args.width c.args.index (omega arith) in
    let read = two_words_read g.W.FastLanes.T g.W.FastLanes.LANES c.args.width c.args.index c.row_and_lane-r.result.0 _ g.met.W.FastLanes.shape c.requires.width c.row_and_lane-r.ensures.value.0 c.row_start-k.ensures.bit (omega arith) in
    rw (some, read) (omega arith)

pub returns-then-width-eq0-clause-words : goal.returns-then-width-eq0-clause-words
returns-then-width-eq0-clause-words g c =
    let none = words_at_none g.W.FastLanes.T g.W.FastLanes.LANES c.args.width c.args.index (omega arith) in
    rw none (omega arith)
