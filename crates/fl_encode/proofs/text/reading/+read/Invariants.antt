use Rattle.std.proofs.Common.{◌*◌, ◌+◌}
use Rattle.fl_encode.proofs.text.reading.+read.Given as goal

abbrev pub decreases-read_scheme : goal.decreases-read_scheme
decreases-read_scheme l = 4 * l.depth

abbrev pub decreases-read_child : goal.decreases-read_child
decreases-read_child l = 4 * l.depth + 1

abbrev pub decreases-read_one : goal.decreases-read_one
decreases-read_one l = 4 * l.depth + 2

abbrev pub decreases-read_two : goal.decreases-read_two
decreases-read_two l = 4 * l.depth + 2

abbrev pub decreases-read_three : goal.decreases-read_three
decreases-read_three l = 4 * l.depth + 2

abbrev pub decreases-read_children : goal.decreases-read_children
decreases-read_children l = 4 * l.depth + 3
