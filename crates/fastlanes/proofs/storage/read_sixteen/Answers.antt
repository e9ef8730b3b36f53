use Rattle.std.proofs.Common.{◌+◌, arith, length, length-set}
use Rattle.fastlanes.specs.Layout.{word_at}
use Rattle.fastlanes.proofs.Patterns.{pattern_filled}
use Rattle.fastlanes.proofs.Streams.{sixteen_fit}
use Rattle.fastlanes.proofs.storage.read_sixteen.Goals as goal

pub loop-j-preserved : goal.loop-j-preserved
loop-j-preserved g c = record {
  whole = rw length-set c.loop-j.invariant.whole;
  read = pattern_filled g.W.FastLanes.pattern (λ k. word_at g.W.FastLanes.T c.args.bytes.now (c.args.at + k)) c.loop-j.words c.loop-j.j c.word.result (omega arith) c.loop-j.invariant.read c.word.ensures;
}

pub word-requires : goal.word-requires
word-requires g c = sixteen_fit g.W.FastLanes.T g.W.FastLanes.LANES c.args.at c.loop-j.j (length c.args.bytes.now) g.met.W.FastLanes.shape c.requires c.loop-j-test.true
