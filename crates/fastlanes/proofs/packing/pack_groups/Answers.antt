use Rattle.std.proofs.Common.{arith, ap, ◌∙◌}
use Rattle.fastlanes.specs.Layout.{pattern_at}
use Rattle.fastlanes.specs.Rows.{packed_word, word_index}
use Rattle.fastlanes.proofs.RowWrites.{groups_more, words_packed, whole_eights}
use Rattle.fastlanes.proofs.WholeWords.{whole_packed}
use Rattle.fastlanes.proofs.packing.pack_groups.Goals as goal

pub loop-g-preserved : goal.loop-g-preserved
loop-g-preserved g c = record {
  written = groups_more c.args.width g.W.FastLanes.LANES (word_index g.W.FastLanes.LANES) (packed_word g.W.FastLanes.T c.args.width (pattern_at g.W.FastLanes.pattern c.args.items.now)) c.loop-g.g
      (g.S.Storage.word c.loop-g.packed) (g.S.Storage.word c.pack_group.new.packed) (omega arith) c.pack_group.ensures.words c.loop-g.invariant.written;
  whole = ap g.S.Storage.count c.pack_group.auto.packed ∙ c.loop-g.invariant.whole;
}

pub returns : goal.returns
returns g c =
    let eights = whole_eights g.W.FastLanes.T g.W.FastLanes.LANES g.met.W.FastLanes.shape in
    words_packed g.W.FastLanes.T g.W.FastLanes.LANES c.args.width c.loop-g.g (pattern_at g.W.FastLanes.pattern c.args.items.now) (g.S.Storage.word c.loop-g.packed) g.met.W.FastLanes.shape (omega arith) c.loop-g.invariant.written

pub returns-then-bits-eq8 : goal.returns-then-bits-eq8
returns-then-bits-eq8 g c =
    whole_packed g.W.FastLanes.T g.W.FastLanes.LANES c.args.width (pattern_at g.W.FastLanes.pattern c.args.items.now) (g.S.Storage.word c.copy_items.new.packed) g.met.W.FastLanes.shape (omega arith) (omega arith) (λ i h. c.copy_items.ensures i h)
