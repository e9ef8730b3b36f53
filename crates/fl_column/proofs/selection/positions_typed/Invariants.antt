use Rattle.std.proofs.Common.{◌≡◌, map, take, true, option_map, unsigned_abs}
use Rattle.std.specs.List.{list_all}
use Rattle.fl_types.specs.Validities.{items_of}
use Rattle.fl_column.specs.Operations.{is_in_range}
use Rattle.fl_column.proofs.selection.positions_typed.Given as goal

-- the positions so far
abbrev pub invariant-loop-i : goal.invariant-loop-i
invariant-loop-i g l =
    let items = items_of l.validity (map g.T.Number.value l.indices) in record {
      range : list_all (is_in_range l.len) (take l.i items) ≡ true;
      items : l.positions.items ≡ map (option_map unsigned_abs) (take l.i items);
    }
