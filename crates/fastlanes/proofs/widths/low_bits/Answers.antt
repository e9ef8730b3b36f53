use Rattle.std.proofs.Common.{arith}
use Rattle.fastlanes.proofs.LowBits.{low_bits_is}
use Rattle.fastlanes.proofs.widths.low_bits.Goals as goal

pub returns : goal.returns
returns c = low_bits_is c.args.width (omega arith)
