use Rattle.fastlanes.proofs.TransposedBits.{transposed_bit}
use Rattle.fastlanes.proofs.bit_transpose.transpose_bits.Goals as goal

pub returns-clause-bits : goal.returns-clause-bits
returns-clause-bits g c r l p q =
    transposed_bit g.W.FastLanes.T g.W.FastLanes.LANES c.args.input.now c.write_bits.new.output c.bytes_of_words.new.bytes c.gather_bytes-bytes.result r l g.met.W.FastLanes.shape p q
    c.write_bits.ensures.bits c.gather_bytes-bytes.ensures.moved c.bytes_of_words.ensures.bits
