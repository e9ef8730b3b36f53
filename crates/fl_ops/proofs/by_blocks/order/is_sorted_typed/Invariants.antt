use Rattle.std.proofs.Common.{◌≡◌, ℕ, ◌+◌, ◌-◌, ◌*◌, ◌<◌, get_or, length, min, None, option_map, true}
use Rattle.fl_column.specs.Queries.{in_order}
use Rattle.fl_ops.proofs.by_blocks.order.is_sorted_typed.Given as goal

-- the last item of the blocks so far, whose pairs are in order
abbrev pub invariant-loop-j : goal.invariant-loop-j
invariant-loop-j g l =
    let items = l.reader.column.items in
    let end = min (1024 * l.j - l.reader.offset) (length items) in
    record {
      last : 0 < end → option_map g.T.Number.value l.last ≡ get_or items (end - 1) None;
      pairs : (k : ℕ) → k + 1 < end → in_order l.fn.strict (get_or items k None) (get_or items (k + 1) None) ≡ true;
    }
