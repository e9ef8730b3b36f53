use Rattle.std.proofs.Common.{◌≡◌, ℕ, ◌+◌, ◌-◌, ◌*◌, ◌/◌, ◌%◌, ◌<◌, get_or, length, min, pos}
use Rattle.fl_column.specs.Columns.{integers_in}
use Rattle.fl_codec.specs.Deltas.{block_integer}
use Rattle.fl_bitpacking.specs.Blocks.{value_at}
use Rattle.fl_array.proofs.reader.+reads.Given as goal

abbrev pub decreases-direct::DirectReader::read_items : goal.decreases-direct::DirectReader::read_items
decreases-direct::DirectReader::read_items g l = 2 * l.self.now.depth + 1

abbrev pub decreases-deltas::read_deltas : goal.decreases-deltas::read_deltas
decreases-deltas::read_deltas g l = 2 * l.deltas.now.depth + 2

-- the items of the blocks so far
abbrev pub invariant-deltas::read_deltas-loop-j : goal.invariant-deltas::read_deltas-loop-j
invariant-deltas::read_deltas-loop-j g l = (i : ℕ) → i < min (1024 * l.j) (l.first + length l.initial.items) - l.first → value_at g.T.Number.value l.items i ≡ block_integer g.T.NativePType.PTYPE (value_at g.T.Number.value l.bases) (λ k. get_or (integers_in l.deltas.column) k (pos 0)) ((l.first + i) / 1024) ((l.first + i) % 1024)
