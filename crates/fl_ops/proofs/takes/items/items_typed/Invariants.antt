use Rattle.std.proofs.Common.{◌≡◌, ◌||◌, IsTrue, is_some, take}
use Rattle.std.specs.List.{list_all}
use Rattle.fl_types.specs.Types.{can_be_null}
use Rattle.fl_column.specs.Selections.{items_at}
use Rattle.fl_array.specs.Trees.{column}
use Rattle.fl_ops.proofs.takes.items.items_typed.Given as goal

-- the items so far, none of which is null where none may be
abbrev pub invariant-loop-position : goal.invariant-loop-position
invariant-loop-position g l = record {
  items : l.taken ≡ items_at (column l.array).items (take l.position-index l.positions);
  nulls : IsTrue (can_be_null l.nullability || list_all is_some l.taken);
}
