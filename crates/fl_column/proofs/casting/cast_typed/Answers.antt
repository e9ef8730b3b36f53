use Rattle.std.proofs.Common.{◌≡◌, map, sym, true}
use Rattle.std.specs.List.{list_all}
use Rattle.fl_types.specs.Buffers.{integers_of}
use Rattle.fl_types.specs.Integers.{fits}
use Rattle.fl_types.specs.Validities.{items_of}
use Rattle.fl_column.specs.Columns.{option_all}
use Rattle.fl_column.proofs.CastSlotLaws.{cast_made}
use Rattle.fl_column.proofs.SelectionLaws.{items_fit}
use Rattle.fl_column.proofs.casting.cast_typed.Goals as goal
use Rattle.fl_column.proofs.casting.cast_typed.Goals.{else-not-write_cast-via-then-not-write_cast+else-not-items_fit, else-not-write_cast-via-else-not-write_cast}

pub returns : goal.returns
returns g c =
    let t = g.T.NativePType.PTYPE in
    let xs = c.as_slice-items.result.now in
    let zs = integers_of c.args.slots.now in
    let v = c.args.validity.now in
    let read : map g.S.Number.value xs ≡ zs = c.as_slice-items.ensures in
    let fit : list_all (option_all (fits t)) (items_of v zs) ≡ true = elim c.else-not-write_cast.branch [
      | else-not-write_cast-via-then-not-write_cast+else-not-items_fit w ↦ rw read at (sym w.if-not-items_fit.ensures)
      | else-not-write_cast-via-else-not-write_cast w ↦ items_fit (fits t) v zs (rw read at (sym w.if-not-write_cast.ensures.fit))
    ] in
    cast_made g.T.Number.value g.S.Number.value t c.args.nullability xs zs c.write_cast.new.slots.items v c.in_ok-validity.validity c.new_unchecked.result read c.requires.covers c.requires.nulls fit c.write_cast.ensures.slots c.in_ok-validity.ensures c.new_unchecked.ensures
