use Rattle.fastlanes.proofs.TransposedBits.{top_bit}
use Rattle.fastlanes.proofs.bit_transpose.top_bits.Goals as goal

pub returns : goal.returns
returns c m h = top_bit c.args.vector m c.requires h
