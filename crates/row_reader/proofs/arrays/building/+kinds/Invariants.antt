use Rattle.std.proofs.Common.{◌*◌, ◌+◌}
use Rattle.row_reader.proofs.arrays.building.+kinds.Given as goal

-- a level of kinds, and within it the calls on the way to the next one
abbrev pub decreases-nested : goal.decreases-nested
decreases-nested l = 8 * l.depth

abbrev pub decreases-encoded : goal.decreases-encoded
decreases-encoded l = 8 * l.inner.depth + 4

abbrev pub decreases-less_each : goal.decreases-less_each
decreases-less_each l = 8 * l.inner.depth + 3

abbrev pub decreases-less_one : goal.decreases-less_one
decreases-less_one l = 8 * l.inner.depth + 2

abbrev pub decreases-blocked : goal.decreases-blocked
decreases-blocked l = 8 * l.inner.depth + 2

abbrev pub decreases-delta : goal.decreases-delta
decreases-delta l = 8 * l.inner.depth + 2

abbrev pub decreases-runs : goal.decreases-runs
decreases-runs l = 8 * l.inner.depth + 2

abbrev pub decreases-long_array : goal.decreases-long_array
decreases-long_array l = 8 * l.inner.depth + 1

abbrev pub decreases-small_array : goal.decreases-small_array
decreases-small_array l = 8 * l.inner.depth + 1
