use Rattle.std.proofs.Common.{◌*◌, ◌+◌}
use Rattle.row_reader.proofs.arrays.kinds.+kind.Given as goal

abbrev pub decreases-kind_to : goal.decreases-kind_to
decreases-kind_to l = 2 * l.depth

abbrev pub decreases-kinds_inside : goal.decreases-kinds_inside
decreases-kinds_inside l = 2 * l.depth + 1
