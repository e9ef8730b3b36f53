-- Bitmaps of items as Arrow has them: one of their values, and one of those that are valid. A bitmap of valid items without a byte says that no item may be null.
use Rattle.std.specs.Prelude.{◌≡◌, ◌≤◌, ℕ, false, Option, List, [], ◌∷◌, length}
use Rattle.fl_types.specs.declared.validity.Validity.{Validity}
use Rattle.fl_types.specs.declared.validity.Validity.TheVariants as valid
use Rattle.fl_types.specs.Validities.{items_of}
use Rattle.fl_column.specs.Bitmaps.{bit_in, bits_in}

-- no bit from bit n on is set
abbrev pub IsClearFrom : ℕ → List ℕ → Type 0
IsClearFrom n bitmap = (i : ℕ) → n ≤ i → bit_in bitmap i ≡ false

-- which of n items are valid
abbrev pub validity_in : List ℕ → ℕ → Validity
validity_in [] n = valid.NonNullable
validity_in (byte ∷ bytes) n = valid.Array (bits_in (byte ∷ bytes) n)

-- the values whose bits are set, and nulls
abbrev pub items_in : {A : Type 0} → List A → List ℕ → List (Option A)
items_in values bitmap = items_of (validity_in bitmap (length values)) values
