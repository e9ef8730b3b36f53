use Rattle.std.proofs.Common.{◌≡◌, ◌≤◌, Some, length, map, take, true, vec_capacity, vec_len}
use Rattle.std.specs.List.{list_all}
use Rattle.fl_column.specs.Operations.{is_in_range}
use Rattle.fl_column.specs.Selections.{slot_named}
use Rattle.fl_column.proofs.selection.without_nulls.items_named.Given as goal

-- the items so far, and room for the others
abbrev pub invariant-loop-index : goal.invariant-loop-index
invariant-loop-index g l =
    let slots = map g.T.Number.value l.items in
    let indices = map g.I.Number.value (take l.index-index l.indices) in record {
      long : vec_len l.named ≡ l.index-index;
      room : length l.indices ≤ vec_capacity l.named;
      range : list_all (λ index. is_in_range (length slots) (Some index)) indices ≡ true;
      items : map g.T.Number.value l.named.items ≡ map (slot_named slots) indices;
    }
