-- Refusals in their order.
use Rattle.std.specs.Prelude.{Option, Some, None}
use Rattle.fl_types.specs.declared.error.FastLanesError.{FastLanesError}

-- the first of two reasons
abbrev pub otherwise : Option FastLanesError → Option FastLanesError → Option FastLanesError
otherwise (Some refusal) other = Some refusal
otherwise None other = other
