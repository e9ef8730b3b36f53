use Rattle.std.proofs.Common.{sym, refl, ◌<◌, length, arith}
use Rattle.fl_types.specs.Values.{bool_number}
use Rattle.fl_column.specs.Columns.{bools}
use Rattle.fl_column.proofs.ItemLaws.{nullable_by_item, null_stays}
use Rattle.fl_column.proofs.bools.BoolArray.scalar_at.Goals as goal

pub returns-in-None : goal.returns-in-None
returns-in-None c =
    let a = c.args.self.now in
    let within : c.args.i < length a.bits = omega arith in
    let may = nullable_by_item a.validity a.bits c.args.i (sym c.in-None.ensures) within in
    rw (c.null.ensures, c.dtype.ensures, may, null_stays bool_number (bools a) c.args.i (sym c.in-None.ensures)) refl
