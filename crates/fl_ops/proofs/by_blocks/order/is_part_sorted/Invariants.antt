use Rattle.std.proofs.Common.{◌≡◌, ℕ, ◌+◌, ◌-◌, ◌<◌, ◌≤◌, get_or, None, option_map, true}
use Rattle.fl_column.specs.Queries.{in_order}
use Rattle.fl_ops.proofs.by_blocks.order.is_part_sorted.Given as goal

-- the last item so far, and the pairs up to it are in order
abbrev pub invariant-loop-i : goal.invariant-loop-i
invariant-loop-i g l =
    let items = l.reader.column.items in
    record {
      last : 0 < l.start + l.i → option_map g.T.Number.value l.last ≡ get_or items (l.start + l.i - 1) None;
      pairs : (k : ℕ) → l.start - 1 ≤ k → k + 1 < l.start + l.i → in_order l.fn.strict (get_or items k None) (get_or items (k + 1) None) ≡ true;
    }
