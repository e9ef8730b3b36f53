use Rattle.std.proofs.Common.{arith, refl}
use Rattle.fastlanes.specs.Layout.{pattern_at}
use Rattle.fastlanes.specs.Rows.{packed_word}
use Rattle.fastlanes.proofs.RowWrites.{words_more}
use Rattle.fastlanes.proofs.packing.pack_32.Goals as goal

pub returns-clause-words : goal.returns-clause-words
returns-clause-words g c = words_more g.W.FastLanes.T g.W.FastLanes.LANES c.args.width (packed_word g.W.FastLanes.T c.args.width (pattern_at g.W.FastLanes.pattern c.args.items.now)) c.args.g 0 16 16 32 _ _ _ g.met.W.FastLanes.shape c.requires.group.inside (omega arith) (omega arith) (omega arith) refl c.pack_16-begun.ensures.words c.pack_16.ensures.words
