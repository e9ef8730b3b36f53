-- Lists whose nulls are filled from before.
use Rattle.std.specs.Prelude.{◌+◌, ◌*◌, ◌/◌, ℕ, ℤ, pos, List, [], ◌∷◌, take, Option, Some, None, unwrap_or}
use Rattle.fl_types.specs.Bits.{between}

-- the first of two that is there
abbrev pub either : {A : Type 0} → Option A → Option A → Option A
either (Some x) other = Some x
either None other = other

-- the last item that is not null
abbrev pub last_some : {A : Type 0} → List (Option A) → Option A
last_some [] = None
last_some (x ∷ xs) = either (last_some xs) x

-- the first item that is not null
abbrev pub first_some : {A : Type 0} → List (Option A) → Option A
first_some [] = None
first_some (x ∷ xs) = either x (first_some xs)

-- the item at the greatest valid position up to i, else what stood before; past the end this goes on with the last one
abbrev pub filled_from : {A : Type 0} → A → List (Option A) → ℕ → A
filled_from before items i = unwrap_or (last_some (take (i + 1) items)) before

-- whether nulls are filled across chunks of 1024
pub data FillMode : Type 0 where
  Carry : FillMode
  Reset : FillMode

-- the first position from which position i may be filled
abbrev pub fill_start : FillMode → ℕ → ℕ
fill_start Carry i = 0
fill_start Reset i = 1024 * (i / 1024)

-- the item at the greatest valid position from there up to i, else 0; past the end this goes on with the last one
abbrev pub fill_forward : FillMode → List (Option ℤ) → ℕ → ℤ
fill_forward mode items i = unwrap_or (last_some (between (fill_start mode i) (i + 1) items)) (pos 0)

-- the last item that is carried to chunk k
abbrev pub carried_to : List (Option ℤ) → ℕ → ℤ
carried_to items k = unwrap_or (last_some (take (1024 * k) items)) (pos 0)
