-- said here, where the search finds it too: a body that breaks it is refused at once
use Rattle.std.proofs.Common.{rules}
use Rattle.fastlanes.proofs.Shifts.{mask_below}
use Rattle.fastlanes.proofs.words.narrow.U8FastLanes.bits_across.Goals as goal

pub returns : goal.returns
returns c = search (rules, mask_below)
