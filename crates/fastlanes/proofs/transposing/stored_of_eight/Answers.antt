-- said here, where the search finds it too: a body that breaks it is refused at once
use Rattle.std.proofs.Common.{arith, rules}
use Rattle.fastlanes.proofs.Moves.{moved_to_run, place_low}
use Rattle.fastlanes.proofs.Patterns.{pattern_at_read}
use Rattle.fastlanes.proofs.transposing.stored_of_eight.Goals as goal

pub returns : goal.returns
returns g c = search (rules, moved_to_run, place_low, pattern_at_read)

pub bounds-stored-pos : goal.bounds-stored-pos
bounds-stored-pos g c = let within = (moved_to_run c.args.h c.args.c c.requires.within c.requires.group).1 in omega arith
