use Rattle.std.proofs.Common.{arith}
use Rattle.std.proofs.lemmas.Grind.{common_steps}
use Rattle.fastlanes.proofs.BitSums.{or_on}
use Rattle.fastlanes.proofs.words.narrow.U8FastLanes.with_bit.Goals as goal

pub returns-then-on : goal.returns-then-on
returns-then-on c = grind (arith, common_steps, or_on c.args.self c.args.b c.requires.above)
