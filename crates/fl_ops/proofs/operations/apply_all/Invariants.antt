use Rattle.std.proofs.Common.{◌≡◌, map}
use Rattle.fl_array.specs.Trees.{column}
use Rattle.fl_ops.specs.Operations.{run_columns, step_of}
use Rattle.fl_ops.proofs.Runs.{LeadsOn, steps_from}
use Rattle.fl_ops.proofs.operations.apply_all.Given as goal

-- what is left to run gives what all gives, the column and the array
abbrev pub invariant-loop-op : goal.invariant-loop-op
invariant-loop-op l =
    (run_columns (column l.current) (steps_from l.rest l.op-index) ≡ run_columns (column l.array) (map step_of l.ops))
    × LeadsOn l.current l.rest l.op-index l.array l.ops
