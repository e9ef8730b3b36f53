use Rattle.std.proofs.Common.{arith, ◌∙◌, refl}
use Rattle.fastlanes.specs.Layout.{place, pattern_at}
use Rattle.fastlanes.specs.Rows.{item_with_reference}
use Rattle.fastlanes.proofs.RowWrites.{groups_more, sums_written, whole_eights}
use Rattle.fastlanes.proofs.WholeWords.{none_added, whole_unpacked, whole_count}
use Rattle.fastlanes.proofs.unpacking.unpack_groups.Goals as goal

pub loop-g-preserved : goal.loop-g-preserved
loop-g-preserved g c = record {
  written = groups_more g.W.FastLanes.T g.W.FastLanes.LANES place (item_with_reference g.W.FastLanes.T g.W.FastLanes.LANES c.args.width (g.S.Storage.word c.args.words.now) (g.W.FastLanes.lane c.splat_reference-reference.result)) c.loop-g.g
      (pattern_at g.W.FastLanes.pattern c.loop-g.items) (pattern_at g.W.FastLanes.pattern c.unpack_group.new.items) (omega arith) c.unpack_group.ensures.written c.loop-g.invariant.written;
}

pub returns : goal.returns
returns g c = record {
  items = λ i h.
      let eights = whole_eights g.W.FastLanes.T g.W.FastLanes.LANES g.met.W.FastLanes.shape in
      sums_written g.W.FastLanes.T g.W.FastLanes.LANES c.args.width c.loop-g.g (g.S.Storage.word c.args.words.now) (pattern_at g.W.FastLanes.pattern c.loop-g.items) (g.W.FastLanes.lane c.splat_reference-reference.result) (g.W.FastLanes.pattern c.args.reference) i g.met.W.FastLanes.shape (omega arith) h c.splat_reference-reference.ensures.lanes c.loop-g.invariant.written;
}

pub returns-then-width-eq0 : goal.returns-then-width-eq0
returns-then-width-eq0 g c = record {
  items = λ i h.
      c.fill.ensures.items i h ∙ none_added g.W.FastLanes.T g.W.FastLanes.LANES c.args.width (g.S.Storage.word c.args.words.now) i (g.W.FastLanes.pattern c.args.reference) c.if-width-eq0.true c.word_is_in_range.ensures;
}

pub copy_words-requires : goal.copy_words-requires
copy_words-requires g c =
    let size = g.met.W.FastLanes.few_bytes in
    let count = whole_count g.W.FastLanes.T g.W.FastLanes.LANES c.args.width g.met.W.FastLanes.shape (omega arith) (omega arith) in
    (omega arith, c.requires.block ∙ count)

pub returns-then-bits-eq8 : goal.returns-then-bits-eq8
returns-then-bits-eq8 g c = record {
  items = λ i h.
      whole_unpacked g.W.FastLanes.T g.W.FastLanes.LANES c.args.width (g.S.Storage.word c.args.words.now) i _ (g.W.FastLanes.pattern c.args.reference) g.met.W.FastLanes.shape (omega arith) (omega arith) h (c.copy_words.ensures.small i h) (c.copy_words.ensures.items i h) (c.requires.reference (rw c.if-not-this.true refl));
}
