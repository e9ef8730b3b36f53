use Rattle.std.proofs.Common.{rules, sym}
use Rattle.fastlanes.proofs.ByteBits.{bit_kept}
use Rattle.fastlanes.proofs.compare.unpack_cmp_bytes.Goals as goal

pub returns-clause-bits : goal.returns-clause-bits
returns-clause-bits g c r l p q =
    rw (sym (bit_kept g.W.FastLanes.T g.W.FastLanes.LANES c.compare_block.new.bytes c.words_of_bytes.new.words l r g.met.W.FastLanes.shape c.prove_bytes_fit.ensures p q c.words_of_bytes.ensures.words))
    (c.compare_block.ensures.set r l p q)

-- said here, where the search finds them too: a body that breaks them is refused at once
pub returns-clause-blocks : goal.returns-clause-blocks
returns-clause-blocks g c = search rules

pub returns-clause-words : goal.returns-clause-words
returns-clause-words g c = search rules
