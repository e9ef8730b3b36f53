use Rattle.std.proofs.Common.{◌≡◌, ◌+◌, arith}
use Rattle.fastlanes.specs.Layout.{pattern_at}
use Rattle.fastlanes.specs.Rows.{packed_word}
use Rattle.fastlanes.proofs.RowWrites.{words_more}
use Rattle.fastlanes.proofs.packing.pack_16.Goals as goal

pub returns-clause-words : goal.returns-clause-words
returns-clause-words g c =
    let last : g.row.FROM + 16 ≡ g.row.FROM + 8 + 8 = omega arith in
    rw last (words_more g.W.FastLanes.T g.W.FastLanes.LANES c.args.width (packed_word g.W.FastLanes.T c.args.width (pattern_at g.W.FastLanes.pattern c.args.items.now)) c.args.g _ _ _ _ _ _ _ g.met.W.FastLanes.shape c.requires.group.inside (omega arith) (omega arith) (omega arith) (omega arith)
    c.pack_8-begun.ensures.words c.pack_8.ensures.words)
