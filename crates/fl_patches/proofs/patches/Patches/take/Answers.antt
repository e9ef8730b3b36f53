use Rattle.std.proofs.Common.{◌≡◌, Ok, Option, length}
use Rattle.fl_column.specs.Columns.{column_of_primitive}
use Rattle.fl_column.specs.Selections.{positions_in}
use Rattle.fl_patches.specs.PatchMaps.{ArePatches, PatchesParts, patched_in_take, select_patches}
use Rattle.fl_patches.proofs.Selected.{answered, take_are}
use Rattle.fl_patches.proofs.patches.Patches.take.Goals as goal

pub returns-clause-map : goal.returns-clause-map
returns-clause-map c =
    let p = c.args.self.now in
    let indices = (column_of_primitive c.args.indices.now).items in
    let positions : positions_in p.array_len indices ≡ Ok c.in_ok-positions.positions.items = rw c.array_len.ensures at c.in_ok-positions.ensures in
    let are : Option PatchesParts → Type 0 = λ o. ArePatches o (length indices) (patched_in_take indices p) in
    answered c.select.result (Ok (select_patches c.in_ok-positions.positions.items p)) are (take_are indices p c.in_ok-positions.positions.items positions) (rw c.deref.ensures.value at c.select.ensures)
