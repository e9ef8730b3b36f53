use Rattle.std.proofs.Common.{◌≡◌, map, take, length, option_map, unwrap_or, is_some, pos}
use Rattle.fl_column.proofs.primitive.PrimitiveArray.from_options.Given as goal

-- the slots and bits so far
abbrev pub invariant-loop-option : goal.invariant-loop-option
invariant-loop-option g l =
    let value = g.T.Number.value in record {
      each : length l.bits ≡ l.option-index;
      bits : l.bits ≡ map (λ item. is_some item) (map (option_map value) (take l.option-index l.options));
      slots : map value l.slots.items ≡ map (λ item. unwrap_or item (pos 0)) (map (option_map value) (take l.option-index l.options));
    }
