use Rattle.std.proofs.Common.{◌∙◌}
use Rattle.fastlanes.specs.Layout.{word_at}
use Rattle.fastlanes.proofs.Steps.{unframed}
use Rattle.fastlanes.proofs.unpacking.unpack_bytes.Goals as goal

pub returns-clause-items : goal.returns-clause-items
returns-clause-items g c i h =
    c.unpack_block.ensures.items i h ∙ unframed g.W.FastLanes.T g.W.FastLanes.LANES c.args.width (word_at g.W.FastLanes.T c.args.bytes.now) i _ c.requires.width c.zero.ensures
