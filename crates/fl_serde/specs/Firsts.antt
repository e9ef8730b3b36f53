-- The first items of lists.
use Rattle.std.specs.Prelude.{◌≡◌, ◌<◌, ◌∷◌, List, Option, Some, None, length}

-- These are the first two items, where there are two.
abbrev pub IsFirstTwo : {A : Type 0} → Option (A × A) → List A → Type 0
IsFirstTwo {A} (Some (a, b)) xs = (others : List A) × (xs ≡ a ∷ b ∷ others)
IsFirstTwo None xs = length xs < 2
