use Rattle.std.proofs.Common.{◌≡◌, ◌∙◌, Ok, map, refl}
use Rattle.fl_types.specs.Buffers.{integers_of}
use Rattle.fl_column.specs.Columns.{column_of_primitive}
use Rattle.fl_column.specs.Selections.{bit_named, slots_named, validity_of_bits}
use Rattle.fl_column.proofs.NamedBitLaws.{masked_column, unnamed_masked}
use Rattle.fl_column.proofs.NamedLaws.{passed_on}
use Rattle.fl_column.proofs.selection.with_bits.take.Goals as goal

pub returns-in_err-slots : goal.returns-in_err-slots
returns-in_err-slots c =
    let a = c.args.array.now in
    let b = c.args.indices.now in
    passed_on column_of_primitive c.from_residual.result (slots_named a.slots b.slots) _ _ c.from_residual.ensures.1 (rw (c.slots.ensures.slots, c.slots-2.ensures.slots) at c.in_err-slots.ensures.slots) (unnamed_masked a b c.args.bits.now _ c.requires.items c.requires.each c.requires.indices)

pub returns : goal.returns
returns c =
    let a = c.args.array.now in
    let b = c.args.indices.now in
    let zs = integers_of c.in_ok-slots.slots in
    let named = c.in_ok-named.named in
    let found : slots_named a.slots b.slots ≡ Ok zs = rw (c.slots.ensures.slots, c.slots-2.ensures.slots) at c.in_ok-slots.ensures.slots in
    let bits : named ≡ map (bit_named c.args.bits.now) b.slots = cc (c.in_ok-named.ensures, c.slots-3.ensures.slots) in
    let parts : c.from_buffer.result ≡ record { ptype = a.ptype; slots = zs; validity = validity_of_bits named } = c.from_buffer.ensures ∙ (rw (c.in_ok-slots.ensures.typed, c.slots.ensures.typed, c.validity_of.ensures) refl) in
    masked_column a b c.from_buffer.result c.args.bits.now named zs c.requires.items c.requires.each c.requires.indices found bits parts
