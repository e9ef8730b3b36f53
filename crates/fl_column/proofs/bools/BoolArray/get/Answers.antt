use Rattle.std.proofs.Common.{false, sym, subst, ◌<◌, length}
use Rattle.fl_column.specs.Columns.{BoolParts}
use Rattle.fl_column.proofs.ItemLaws.{valid_item_got, null_item}
use Rattle.fl_column.proofs.bools.BoolArray.get.Goals as goal

pub returns-then-is_valid : goal.returns-then-is_valid
returns-then-is_valid c =
    let within = subst (λ (p : BoolParts). c.args.i < length p.bits) (sym c.self.view_is) c.requires in
    rw (← c.self.view_is) (sym (valid_item_got _ _ c.args.i _ c.self.invariant within (sym c.if-is_valid.ensures) c.get.ensures))

pub returns-else-is_valid : goal.returns-else-is_valid
returns-else-is_valid c =
    let within = subst (λ (p : BoolParts). c.args.i < length p.bits) (sym c.self.view_is) c.requires in
    rw (← c.self.view_is) (sym (null_item _ _ c.args.i false c.self.invariant within (sym c.if-is_valid.ensures)))
