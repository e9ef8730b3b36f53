use Rattle.std.proofs.Common.{refl}
use Rattle.fastlanes.proofs.Segments.{segment_word}
use Rattle.fastlanes.proofs.deltas.compare.word_of_segment.Goals as goal

pub returns-clause-word : goal.returns-clause-word
returns-clause-word g c = rw (c.seg.ensures, c.bits.ensures) refl

pub returns-clause-room : goal.returns-clause-room
returns-clause-room g c = rw (c.seg.ensures, c.bits.ensures) (segment_word g.W.FastLanes.T g.W.FastLanes.LANES c.args.l g.met.W.FastLanes.shape c.requires).2
