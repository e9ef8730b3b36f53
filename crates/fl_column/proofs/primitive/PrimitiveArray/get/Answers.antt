use Rattle.std.proofs.Common.{pos, sym, subst, ◌<◌, length}
use Rattle.fl_column.specs.Columns.{PrimitiveParts}
use Rattle.fl_column.proofs.ItemLaws.{valid_item, null_item}
use Rattle.fl_column.proofs.primitive.PrimitiveArray.get.Goals as goal

pub returns-then-is_valid-clause-item : goal.returns-then-is_valid-clause-item
returns-then-is_valid-clause-item c =
    let within = subst (λ (p : PrimitiveParts). c.args.i < length p.slots) (sym c.self.view_is) c.requires in
    rw (← c.self.view_is) (sym (valid_item _ _ c.args.i _ c.self.invariant within (sym c.if-is_valid.ensures) c.value_at.ensures.value))

pub returns-else-is_valid-clause-item : goal.returns-else-is_valid-clause-item
returns-else-is_valid-clause-item c =
    let within = subst (λ (p : PrimitiveParts). c.args.i < length p.slots) (sym c.self.view_is) c.requires in
    rw (← c.self.view_is) (sym (null_item _ _ c.args.i (pos 0) c.self.invariant within (sym c.if-is_valid.ensures)))
