-- What is asked of arrays.
use Rattle.std.specs.Prelude.{ℤ, Bool, Option, List, if◌then◌else◌}
use Rattle.fl_column.specs.Queries.{are_sorted, are_strictly_sorted}

-- no item is above the next or, where the order is strict, each is below the next
abbrev pub are_in_order : Bool → List (Option ℤ) → Bool
are_in_order strict items = if strict then are_strictly_sorted items else are_sorted items
