use Rattle.std.proofs.Common.{arith, ◌*◌, ◌/◌, ◌%◌}
use Rattle.fastlanes.proofs.Moves.{gathered_run, place_low}
use Rattle.fastlanes.proofs.transposing.gathered_of_eight.Goals as goal

pub listed : goal.listed
listed g c = let within = (gathered_run c.args.h c.args.c c.requires.within c.requires.group).1 in let low = place_low (8 * (c.args.h % 8)) (c.args.h / 8) (omega arith) (omega arith) in omega arith

pub bounds-gathered-pos : goal.bounds-gathered-pos
bounds-gathered-pos g c = let within = (gathered_run c.args.h c.args.c c.requires.within c.requires.group).1 in omega arith
