-- Integers under the bits of a mask.
use Rattle.std.specs.Prelude.{ℤ, Bool, List, [], ◌∷◌, if◌then◌else◌}

-- the integers at the true places, and another one at each of the others
abbrev pub selected : List Bool → List ℤ → ℤ → List ℤ
selected [] zs other = []
selected (bit ∷ bits) [] other = []
selected (bit ∷ bits) (z ∷ zs) other = (if bit then z else other) ∷ selected bits zs other
