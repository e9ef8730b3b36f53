use Rattle.std.proofs.Common.{◌≡◌, ◌∙◌, Ok, refl}
use Rattle.fl_types.specs.Buffers.{integers_of}
use Rattle.fl_types.specs.Types.{either_nullable}
use Rattle.fl_types.specs.Validities.{full_validity, nullability_of}
use Rattle.fl_column.specs.Columns.{column_of_primitive}
use Rattle.fl_column.specs.Selections.{slots_named}
use Rattle.fl_column.proofs.NamedLaws.{named_column, passed_on, unnamed_column}
use Rattle.fl_column.proofs.selection.without_nulls.take.Goals as goal

pub returns-in_err-slots : goal.returns-in_err-slots
returns-in_err-slots c =
    let a = c.args.array.now in
    let b = c.args.indices.now in
    passed_on column_of_primitive c.from_residual.result (slots_named a.slots b.slots) _ _ c.from_residual.ensures.1 (rw (c.slots.ensures.slots, c.slots-2.ensures.slots) at c.in_err-slots.ensures.slots) (unnamed_column a b _ c.requires.items c.requires.indices)

pub returns : goal.returns
returns c =
    let a = c.args.array.now in
    let b = c.args.indices.now in
    let zs = integers_of c.in_ok-slots.slots in
    let named : slots_named a.slots b.slots ≡ Ok zs = rw (c.slots.ensures.slots, c.slots-2.ensures.slots) at c.in_ok-slots.ensures.slots in
    let n : c.or-nullability.result ≡ either_nullable (nullability_of a.validity) (nullability_of b.validity) = cc in
    let parts : c.from_buffer.result ≡ record { ptype = a.ptype; slots = zs; validity = full_validity c.or-nullability.result } = c.from_buffer.ensures ∙ (rw (c.in_ok-slots.ensures.typed, c.slots.ensures.typed, c.from.ensures) refl) in
    named_column a b c.from_buffer.result zs c.or-nullability.result c.requires.items c.requires.indices named n parts
