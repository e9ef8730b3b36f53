use Rattle.std.proofs.Common.{sym, refl, ◌<◌, length, arith}
use Rattle.fl_column.proofs.ItemLaws.{nullable_by_item}
use Rattle.fl_column.proofs.primitive.PrimitiveArray.scalar_at.Goals as goal

pub returns-in-None : goal.returns-in-None
returns-in-None c =
    let a = c.args.self.now in
    let within : c.args.i < length a.slots = omega arith in
    let may = nullable_by_item a.validity a.slots c.args.i (sym c.in-None.ensures.item) within in
    rw (c.null.ensures, c.dtype.ensures, may, ← c.in-None.ensures.item) refl
