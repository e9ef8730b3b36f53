use Rattle.std.proofs.Common.{◌+◌}
use Rattle.fastlanes.proofs.Vectors.{pattern_at_number}
use Rattle.fastlanes.proofs.Sixteen.{loaded}
use Rattle.fastlanes.proofs.words.narrow.U8FastLanes.load.Goals as goal

pub returns-clause-small : goal.returns-clause-small
returns-clause-small c j h = rw (loaded c.args.words.now c.args.at j h, pattern_at_number c.args.words.now (c.args.at + j)) (c.type_inv.words (c.args.at + j)).fits
