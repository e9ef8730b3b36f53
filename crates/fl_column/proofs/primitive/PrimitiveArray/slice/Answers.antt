use Rattle.std.proofs.Common.{sym, subst, length, ◌≤◌}
use Rattle.fl_types.specs.Buffers.{integers_of, ptype_of}
use Rattle.fl_types.specs.Validities.{items_of}
use Rattle.fl_column.specs.Columns.{PrimitiveParts}
use Rattle.fl_column.proofs.ItemLaws.{within_slots, part_covered, part_of_plain}
use Rattle.fl_types.proofs.Refused.{no_memory, no_memory_there, only_memory}
use Rattle.fl_column.proofs.primitive.PrimitiveArray.slice.Goals as goal

pub slice-requires-clause-range : goal.slice-requires-clause-range
slice-requires-clause-range c =
    let within = subst (λ (p : PrimitiveParts). c.args.end ≤ length (items_of p.validity p.slots)) (sym c.self.view_is) c.requires.range in
    rw c.len-len.ensures (within_slots c.self.inside.validity (integers_of c.self.inside.slots) c.args.end c.self.invariant within)

pub slice_slots-requires-clause-range : goal.slice_slots-requires-clause-range
slice_slots-requires-clause-range c =
    let within = subst (λ (p : PrimitiveParts). c.args.end ≤ length (items_of p.validity p.slots)) (sym c.self.view_is) c.requires.range in
    within_slots c.self.inside.validity (integers_of c.self.inside.slots) c.args.end c.self.invariant within

pub invariant_of-result : goal.invariant_of-result
invariant_of-result c =
    let v = c.self.inside.validity in
    let slots = integers_of c.self.inside.slots in
    let within = subst (λ (p : PrimitiveParts). c.args.end ≤ length (items_of p.validity p.slots)) (sym c.self.view_is) c.requires.range in
    part_covered v c.in_ok-validity.validity slots (integers_of c.in_ok-slots.slots) c.args.start c.args.end c.requires.order (within_slots v slots c.args.end c.self.invariant within) c.self.invariant c.in_ok-validity.ensures c.in_ok-slots.ensures.slots

pub returns-clause-column : goal.returns-clause-column
returns-clause-column c = rw (← c.self.view_is) (part_of_plain (ptype_of c.self.inside.slots) (ptype_of c.in_ok-slots.slots) c.self.inside.validity c.in_ok-validity.validity (integers_of c.self.inside.slots) (integers_of c.in_ok-slots.slots) c.args.start c.args.end c.in_ok-slots.ensures.typed c.in_ok-validity.ensures c.in_ok-slots.ensures.slots)

pub returns-in_err-validity-clause-plain : goal.returns-in_err-validity-clause-plain
returns-in_err-validity-clause-plain c = no_memory_there _ c.from_residual.result _ _ c.from_residual.ensures.1 (only_memory _ _ c.in_err-validity.ensures)

pub returns-in_err-slots-clause-plain : goal.returns-in_err-slots-clause-plain
returns-in_err-slots-clause-plain c = no_memory _ c.from_residual-in_err-slots.result _ c.from_residual-in_err-slots.ensures.1

pub returns-in_err-validity-clause-column : goal.returns-in_err-validity-clause-column
returns-in_err-validity-clause-column c = no_memory_there _ c.from_residual.result _ _ c.from_residual.ensures.1 (only_memory _ _ c.in_err-validity.ensures)

pub returns-in_err-slots-clause-column : goal.returns-in_err-slots-clause-column
returns-in_err-slots-clause-column c = no_memory _ c.from_residual-in_err-slots.result _ c.from_residual-in_err-slots.ensures.1
