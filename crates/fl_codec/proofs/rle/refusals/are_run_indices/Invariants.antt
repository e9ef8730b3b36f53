use Rattle.std.proofs.Common.{◌≡◌, ◌<◌, ℕ, true}
use Rattle.std.specs.List.{list_all}
use Rattle.fl_column.specs.Columns.{column_of_primitive, numbers_of}
use Rattle.fl_codec.specs.Chunks.{chunk}
use Rattle.fl_codec.specs.Parts.{items_of_primitive}
use Rattle.fl_codec.specs.RunColumns.{is_run_index, run_count}
use Rattle.fl_codec.proofs.rle.refusals.are_run_indices.Given as goal

-- the chunks so far are
abbrev pub invariant-loop-k : goal.invariant-loop-k
invariant-loop-k l = (j : ℕ) → j < l.k → list_all (is_run_index (run_count (numbers_of (column_of_primitive l.offsets)) l.count j)) (chunk j (items_of_primitive l.indices)) ≡ true
