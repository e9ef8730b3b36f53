use Rattle.std.proofs.Common.{◌*◌, ◌%◌, ◌^◌, rules}
use Rattle.fastlanes.proofs.Sixteen.{zipped_splat}
use Rattle.fastlanes.proofs.words.narrow.U8FastLanes.shift_left.Goals as goal

pub returns : goal.returns
returns c = record { lanes = λ j h. zipped_splat (λ x s. x * 2 ^ s % 2 ^ 8) c.args.vector c.args.by j h (search rules) }
