use Rattle.std.proofs.Common.{◌∙◌, sym, arith}
use Rattle.fastlanes.specs.Layout.{word_at}
use Rattle.fastlanes.proofs.Unique.{items_read}
use Rattle.fastlanes.proofs.Steps.{one_more}
use Rattle.fastlanes.proofs.SingleItems.{single_none, single_in_one, single_in_two, one_word_read, two_words_read}
use Rattle.fastlanes.proofs.single_items.unpack_single.Goals as goal

pub returns-then-width-eq0-clause-bits : goal.returns-then-width-eq0-clause-bits
returns-then-width-eq0-clause-bits g c = single_none g.W.FastLanes.T g.W.FastLanes.LANES c.args.width (word_at g.W.FastLanes.T c.args.bytes.now) c.args.index _ (omega arith) c.zero.ensures

pub word_of_bytes-requires-clause-word : goal.word_of_bytes-requires-clause-word
word_of_bytes-requires-clause-word g c =
    one_more g.W.FastLanes.T g.W.FastLanes.LANES c.args.width c.row_and_lane-r.result.0 _ _ g.met.W.FastLanes.shape c.row_and_lane-r.ensures.row c.requires.width (omega arith) c.row_start-k.ensures.word c.row_start-k.ensures.bit (omega arith)

pub returns-then-shift-width-clause-bits : goal.returns-then-shift-width-clause-bits
returns-then-shift-width-clause-bits g c =
    single_in_one g.W.FastLanes.T g.W.FastLanes.LANES c.args.width (word_at g.W.FastLanes.T c.args.bytes.now) c.args.index _ _ _ _ _ _ g.met.W.FastLanes.shape c.requires.width c.row_and_lane-r.ensures.value.0 c.row_and_lane-r.ensures.value.1
    c.row_start-k.ensures.word c.row_start-k.ensures.bit (omega arith) c.word_of_bytes-low.ensures.word c.bits_from.ensures

pub returns-then-shift-width-clause-item : goal.returns-then-shift-width-clause-item
returns-then-shift-width-clause-item g c item packed =
    single_in_one g.W.FastLanes.T g.W.FastLanes.LANES c.args.width (word_at g.W.FastLanes.T c.args.bytes.now) c.args.index _ _ _ _ _ _ g.met.W.FastLanes.shape c.requires.width c.row_and_lane-r.ensures.value.0 c.row_and_lane-r.ensures.value.1
    c.row_start-k.ensures.word c.row_start-k.ensures.bit (omega arith) c.word_of_bytes-low.ensures.word c.bits_from.ensures
    ∙ sym (items_read g.W.FastLanes.T g.W.FastLanes.LANES c.args.width item (word_at g.W.FastLanes.T c.args.bytes.now) g.met.W.FastLanes.shape packed c.args.index c.requires.index)

pub returns-then-shift-width-clause-words : goal.returns-then-shift-width-clause-words
returns-then-shift-width-clause-words g c some =
    let read = one_word_read g.W.FastLanes.T g.W.FastLanes.LANES c.args.width c.args.index c.row_and_lane-r.result.0 _ g.met.W.FastLanes.shape (omega arith) c.row_and_lane-r.ensures.value.0 c.row_start-k.ensures.bit (omega arith) in
    rw read (omega arith)

pub returns-else-shift-width-clause-bits : goal.returns-else-shift-width-clause-bits
returns-else-shift-width-clause-bits g c =
    single_in_two g.W.FastLanes.T g.W.FastLanes.LANES c.args.width (word_at g.W.FastLanes.T c.args.bytes.now) c.args.index _ _ _ _ _ _ _ g.met.W.FastLanes.shape c.requires.width c.row_and_lane-r.ensures.value.0 c.row_and_lane-r.ensures.value.1
    c.row_start-k.ensures.word c.row_start-k.ensures.bit (omega arith) c.word_of_bytes-low.ensures.small c.word_of_bytes-low.ensures.word c.word_of_bytes.ensures.word c.bits_across.ensures

pub returns-else-shift-width-clause-item : goal.returns-else-shift-width-clause-item
returns-else-shift-width-clause-item g c item packed =
    single_in_two g.W.FastLanes.T g.W.FastLanes.LANES c.args.width (word_at g.W.FastLanes.T c.args.bytes.now) c.args.index _ _ _ _ _ _ _ g.met.W.FastLanes.shape c.requires.width c.row_and_lane-r.ensures.value.0 c.row_and_lane-r.ensures.value.1
    c.row_start-k.ensures.word c.row_start-k.ensures.bit (omega arith) c.word_of_bytes-low.ensures.small c.word_of_bytes-low.ensures.word c.word_of_bytes.ensures.word c.bits_across.ensures
    ∙ sym (items_read g.W.FastLanes.T g.W.FastLanes.LANES c.args.width item (word_at g.W.FastLanes.T c.args.bytes.now) g.met.W.FastLanes.shape packed c.args.index c.requires.index)

pub returns-else-shift-width-clause-words : goal.returns-else-shift-width-clause-words
returns-else-shift-width-clause-words g c some =
    let read = two_words_read g.W.FastLanes.T g.W.FastLanes.LANES c.args.width c.args.index c.row_and_lane-r.result.0 _ g.met.W.FastLanes.shape c.requires.width c.row_and_lane-r.ensures.value.0 c.row_start-k.ensures.bit (omega arith) in
    rw read (omega arith)
