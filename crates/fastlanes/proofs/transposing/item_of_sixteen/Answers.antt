-- said here, where the search finds it too: a body that breaks it is refused at once
use Rattle.std.proofs.Common.{◌%◌, arith, rules}
use Rattle.fastlanes.proofs.Moves.{moved_from_run, segment_first}
use Rattle.fastlanes.proofs.Patterns.{pattern_at_read}
use Rattle.fastlanes.proofs.transposing.item_of_sixteen.Goals as goal

pub returns : goal.returns
returns g c = search (rules, moved_from_run, segment_first, pattern_at_read)

pub overflow_add-result : goal.overflow_add-result
overflow_add-result g c = let low = segment_first (c.args.g % 8) (omega arith) in omega arith

pub overflow_add-result-2 : goal.overflow_add-result-2
overflow_add-result-2 g c = let low = segment_first (c.args.g % 8) (omega arith) in omega arith

pub bounds-items-a : goal.bounds-items-a
bounds-items-a g c = let low = segment_first (c.args.g % 8) (omega arith) in omega arith
