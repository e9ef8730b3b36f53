use Rattle.std.proofs.Common.{sym, subst, length, ◌≤◌}
use Rattle.fl_column.specs.Columns.{BoolParts}
use Rattle.fl_column.proofs.ItemLaws.{bools_covered, part_of_bools}
use Rattle.fl_types.proofs.Refused.{no_memory_there, only_memory}
use Rattle.fl_column.proofs.bools.BoolArray.slice.Goals as goal

pub invariant_of-result : goal.invariant_of-result
invariant_of-result c =
    let within = subst (λ (b : BoolParts). c.args.end ≤ length b.bits) (sym c.self.view_is) (rw (← c.len-len.ensures.bits) c.if-prove.false) in
    bools_covered c.self.inside.validity c.in_ok-validity.validity c.self.inside.bits c.in_ok-bits.bits c.args.start c.args.end c.requires.order within c.self.invariant c.in_ok-validity.ensures c.in_ok-bits.ensures

pub returns-clause-column : goal.returns-clause-column
returns-clause-column c = rw (← c.self.view_is) (part_of_bools c.self.inside.validity c.in_ok-validity.validity c.self.inside.bits c.in_ok-bits.bits c.args.start c.args.end c.in_ok-validity.ensures c.in_ok-bits.ensures)

pub returns-in_err-validity-clause-plain : goal.returns-in_err-validity-clause-plain
returns-in_err-validity-clause-plain c = no_memory_there _ c.from_residual.result _ _ c.from_residual.ensures.1 (only_memory _ _ c.in_err-validity.ensures)

pub returns-in_err-validity-clause-column : goal.returns-in_err-validity-clause-column
returns-in_err-validity-clause-column c = no_memory_there _ c.from_residual.result _ _ c.from_residual.ensures.1 (only_memory _ _ c.in_err-validity.ensures)

pub returns-in_err-bits-clause-plain : goal.returns-in_err-bits-clause-plain
returns-in_err-bits-clause-plain c = no_memory_there _ c.from_residual-in_err-bits.result _ _ c.from_residual-in_err-bits.ensures.1 (only_memory _ _ c.in_err-bits.ensures)

pub returns-in_err-bits-clause-column : goal.returns-in_err-bits-clause-column
returns-in_err-bits-clause-column c = no_memory_there _ c.from_residual-in_err-bits.result _ _ c.from_residual-in_err-bits.ensures.1 (only_memory _ _ c.in_err-bits.ensures)
