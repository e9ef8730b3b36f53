use Rattle.std.proofs.Common.{◌≡◌, ℕ, ◌+◌, ◌-◌, ◌*◌, ◌<◌, length, min}
use Rattle.std.specs.Prelude.{IfSome}
use Rattle.fl_column.specs.Columns.{integers_in, numbers_of}
use Rattle.fl_codec.specs.RunColumns.{run_item}
use Rattle.fl_bitpacking.specs.Blocks.{value_at}
use Rattle.fl_array.specs.Trees.{column}
use Rattle.fl_array.proofs.reader.runs.read_runs.Given as goal

-- the items of the chunks so far
abbrev pub invariant-loop-k : goal.invariant-loop-k
invariant-loop-k g l = (i : ℕ) → i < min (1024 * l.k) (l.first + length l.initial.items) - l.first → IfSome (run_item (integers_in (column l.runs.array.now.values)) (column l.runs.array.now.indices).items (numbers_of (column l.runs.array.now.offsets)) (l.first + i)) (λ z. value_at g.T.Number.value l.items i ≡ z)
