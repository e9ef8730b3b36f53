-- The first of several that costs least, where some may have no cost.
use Rattle.std.specs.Prelude.{ℕ, ◌+◌, List, [], ◌∷◌, Option, Some, None, option_map, nat_lt, if◌then◌else◌}

-- something with its cost, if it has one
abbrev pub priced : {A : Type 0} → (A → Option ℕ) → A → Option (A × ℕ)
priced cost x = option_map (λ n. (x, n)) (cost x)

-- the one that costs less, the first where both cost the same
abbrev pub cheaper : {A : Type 0} → Option (A × ℕ) → Option (A × ℕ) → Option (A × ℕ)
cheaper None other = other
cheaper (Some first) None = Some first
cheaper (Some first) (Some other) = if nat_lt other.1 first.1 then Some other else Some first

-- the first that costs least, with its cost, if one has a cost
unfoldable pub cheapest : {A : Type 0} → (A → Option ℕ) → List A → Option (A × ℕ)
cheapest cost [] = None
cheapest cost (x ∷ xs) = cheaper (priced cost x) (cheapest cost xs)

-- two costs together, if there are both
abbrev pub both : Option ℕ → Option ℕ → Option ℕ
both (Some a) (Some b) = Some (a + b)
both (Some a) None = None
both None other = None

-- something made of two, whose costs add up
abbrev pub combined : {A B C : Type 0} → (A → B → C) → Option (A × ℕ) → Option (B × ℕ) → Option (C × ℕ)
combined f (Some first) (Some other) = Some (f first.0 other.0, first.1 + other.1)
combined f (Some first) None = None
combined f None other = None
