use Rattle.std.proofs.Common.{◌≡◌, Ok, ap, refl, ◌∙◌}
use Rattle.fl_types.specs.Buffers.{integers_of}
use Rattle.fl_column.specs.Operations.{kept}
use Rattle.fl_column.specs.Selections.{kept_validity}
use Rattle.fl_column.proofs.FilterLaws.{filtered_column, kept_covers}
use Rattle.fl_column.proofs.selection.filter_bits.Goals as goal

pub from_buffer-requires : goal.from_buffer-requires
from_buffer-requires c =
    let a = c.args.array.now in
    let bits = c.args.bits.now in
    let slots : integers_of c.in_ok-slots.slots ≡ kept bits a.slots = cc (c.in_ok-slots.ensures.slots, c.slots.ensures.slots) in
    let valid : c.in_ok-validity.validity ≡ kept_validity bits a.validity = cc (c.in_ok-validity.ensures, c.validity.ensures.value) in
    rw (valid, slots) (kept_covers a.validity bits a.slots c.validity.ensures.covers)

pub returns : goal.returns
returns c =
    let a = c.args.array.now in
    let bits = c.args.bits.now in
    let slots : integers_of c.in_ok-slots.slots ≡ kept bits a.slots = cc (c.in_ok-slots.ensures.slots, c.slots.ensures.slots) in
    let valid : c.in_ok-validity.validity ≡ kept_validity bits a.validity = cc (c.in_ok-validity.ensures, c.validity.ensures.value) in
    ap Ok (filtered_column a c.from_buffer.result bits c.validity.ensures.covers (c.from_buffer.ensures ∙ (rw (c.in_ok-slots.ensures.typed, c.slots.ensures.typed, slots, valid) refl)))
