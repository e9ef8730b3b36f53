use Rattle.std.proofs.Common.{◌≡◌, ℕ, ◌+◌, ◌<◌, ◌≤◌, get_or, None, option_map, true}
use Rattle.fl_column.specs.Queries.{same_item}
use Rattle.fl_ops.proofs.by_blocks.constancy.is_part_constant.Given as goal

-- the items so far equal the given one
abbrev pub invariant-loop-i : goal.invariant-loop-i
invariant-loop-i g l = (k : ℕ) → l.start ≤ k → k < l.start + l.i → same_item (option_map g.T.Number.value l.fn.first) (get_or l.reader.column.items k None) ≡ true
