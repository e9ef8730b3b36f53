use Rattle.std.proofs.Common.{◌≡◌, ◌<◌, ℕ, true}
use Rattle.fl_column.specs.Columns.{column_of_primitive, numbers_of}
use Rattle.fl_codec.specs.RunColumns.{is_chunk_of_runs}
use Rattle.fl_codec.proofs.rle.refusals.are_run_offsets.Given as goal

-- the chunks so far are
abbrev pub invariant-loop-k : goal.invariant-loop-k
invariant-loop-k l = (j : ℕ) → j < l.k → is_chunk_of_runs (numbers_of (column_of_primitive l.offsets)) l.count j ≡ true
