-- Parts of slices.
use Rattle.std.proofs.Common.{◌≡◌, ℕ, ◌-◌, List, length, take, drop, arith}
use Rattle.std.proofs.lemmas.List.{take_all, length-drop}

-- the slice from an index on
pub from_index : {X : Type 0} (xs : List X) (at : ℕ) → take (length xs - at) (drop at xs) ≡ drop at xs
from_index xs at = take_all (length xs - at) (drop at xs) (omega (arith, length-drop at xs))
