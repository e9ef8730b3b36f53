use Rattle.std.proofs.Common.{◌≡◌, ℕ, ◌+◌, ◌<◌, ◌≤◌, get_or, None, true}
use Rattle.fl_types.specs.Integers.{fits}
use Rattle.fl_column.specs.Columns.{option_all}
use Rattle.fl_ops.proofs.by_blocks.cast.has_part.Given as goal

-- the type has the items so far
abbrev pub invariant-loop-i : goal.invariant-loop-i
invariant-loop-i g l = (k : ℕ) → l.start ≤ k → k < l.start + l.i → option_all (fits g.T.NativePType.PTYPE) (get_or l.reader.column.items k None) ≡ true
