use Rattle.std.proofs.Common.{◌≡◌, Ok, ap, sym, rules}
use Rattle.std.proofs.lemmas.List.{length-map}
use Rattle.fl_types.specs.Integers.{other_sign}
use Rattle.fl_column.proofs.ItemLaws.{other_type, reread_other, reread_same}
use Rattle.fl_types.proofs.Refused.{no_memory}
use Rattle.fl_column.proofs.primitive.PrimitiveArray.reinterpret_cast.Goals as goal

pub returns-then-eq : goal.returns-then-eq
returns-then-eq c =
    let same : c.args.self.ptype ≡ c.args.ptype = search rules in
    ap (λ p. Ok p) (sym (reread_same c.args.self c.args.ptype same c.stored_integers_are_in_range.ensures.slots))

pub from_buffer-requires : goal.from_buffer-requires
from_buffer-requires c = rw (c.in_ok-reinterpret_slots.ensures.slots, length-map, c.into_parts-slots.ensures.slots, c.into_parts-slots.ensures.validity) c.into_parts-slots.ensures.covers

pub returns-in_err-reinterpret_slots : goal.returns-in_err-reinterpret_slots
returns-in_err-reinterpret_slots c = no_memory _ c.from_residual.result _ c.from_residual.ensures.1

pub returns : goal.returns
returns c =
    let other : other_sign c.args.self.ptype ≡ c.args.ptype = other_type c.args.self.ptype c.args.ptype (rw c.ptype.ensures at c.if-eq.ensures) c.requires in
    ap (λ p. Ok p) (reread_other c.args.self c.from_buffer.result c.args.ptype _ _ _ _ _ c.from_buffer.ensures c.in_ok-reinterpret_slots.ensures.typed c.in_ok-reinterpret_slots.ensures.slots c.into_parts-slots.ensures.typed c.into_parts-slots.ensures.slots c.into_parts-slots.ensures.validity other)
