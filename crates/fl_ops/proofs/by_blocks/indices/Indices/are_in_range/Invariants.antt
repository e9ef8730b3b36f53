use Rattle.std.proofs.Common.{◌≡◌, take, true}
use Rattle.std.specs.List.{list_all}
use Rattle.fl_column.specs.Operations.{is_in_range}
use Rattle.fl_ops.proofs.by_blocks.indices.Indices.are_in_range.Given as goal

-- the indices so far are in range
abbrev pub invariant-loop-k : goal.invariant-loop-k
invariant-loop-k g l = list_all (is_in_range l.len) (take l.k l.self.items) ≡ true
