use Rattle.std.proofs.Common.{◌≡◌, ◌∙◌, ◌+◌, ◌++◌, ◌∷◌, [], map, take, option_map, is_some, length, unwrap_or, pos, refl, ap, arith}
use Rattle.std.proofs.lemmas.List.{take_all, map_push, length_push}
use Rattle.fl_column.proofs.ItemLaws.{new_options, map_read, is_some-option_map, slot_value}
use Rattle.fl_types.proofs.Refused.{no_memory, no_memory_there}
use Rattle.fl_column.proofs.primitive.PrimitiveArray.from_options.Goals as goal

pub returns : goal.returns
returns g c =
    let options = c.args.options.now in
    let value = g.T.Number.value in
    let full : take c.loop-option.option-index options ≡ options = take_all c.loop-option.option-index options (omega arith) in
    record { plain = new_options g.T.NativePType.PTYPE (map (option_map value) options) (map value c.loop-option.slots.items) c.loop-option.bits c.new.result (rw full at c.loop-option.invariant.slots) (rw full at c.loop-option.invariant.bits) c.new.ensures }

pub loop-option-preserved : goal.loop-option-preserved
loop-option-preserved g c =
    let value = g.T.Number.value in
    let options = c.args.options.now in
    let i = c.loop-option.option-index in
    let seen = map (option_map value) (take i options) in
    let x = option_map value c.option-item.result in
    let more : map (option_map value) (take (i + 1) options) ≡ seen ++ x ∷ [] = map_read (option_map value) options i c.option-item.result c.loop-option-test.true c.option-item.is in
    let new_bits = map_push (λ item. is_some item) seen x in
    let new_slots = map_push (λ item. unwrap_or item (pos 0)) seen x in
    let pushed = map_push value c.loop-option.slots.items c.unwrap_or.result in
    let bit : c.is_some.result ≡ is_some x = c.is_some.ensures ∙ is_some-option_map value c.option-item.result in
    let slot : value c.unwrap_or.result ≡ unwrap_or x (pos 0) = slot_value value c.option-item.result c.zero.result c.unwrap_or.result c.unwrap_or.ensures c.zero.ensures in
    record {
      each = rw c.in_ok-push-2.ensures.ok (length_push c.loop-option.bits c.is_some.result ∙ ap (λ n. n + 1) c.loop-option.invariant.each);
      bits = rw (c.in_ok-push-2.ensures.ok, more, new_bits, bit, c.loop-option.invariant.bits) refl;
      slots = rw (c.in_ok-push.ensures.items, more, new_slots, pushed, slot, c.loop-option.invariant.slots) refl;
    }

pub loop-option-init : goal.loop-option-init
loop-option-init g c = record { each = ap (λ bits. length bits) c.new-bits.ensures; bits = c.new-bits.ensures; slots = ap (map g.T.Number.value) c.in_ok-slots.ensures.items }

pub returns-in_err-slots : goal.returns-in_err-slots
returns-in_err-slots g c = record { plain = no_memory _ c.from_residual.result _ c.from_residual.ensures.1 }

pub returns-in_err-push : goal.returns-in_err-push
returns-in_err-push g c = record { plain = no_memory _ c.from_residual-in_err-push.result _ c.from_residual-in_err-push.ensures.1 }

pub returns-in_err-push-2 : goal.returns-in_err-push-2
returns-in_err-push-2 g c = record { plain = no_memory_there _ c.from_residual-in_err-push-2.result _ _ c.from_residual-in_err-push-2.ensures.1 c.in_err-push-2.ensures.memory }
