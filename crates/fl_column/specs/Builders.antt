-- The validity of items that are gathered one by one.
use Rattle.std.specs.Prelude.{◌==◌, ℕ, Bool, true, false, [], ◌∷◌, ◌++◌, length, replicate}
use Rattle.fl_types.specs.declared.validity.Validity.{Validity}
use Rattle.fl_types.specs.declared.validity.Validity.TheVariants as valid

-- nulls may stand among this many items, which have a bit each or are all valid
abbrev pub is_growing : Validity → ℕ → Bool
is_growing valid.NonNullable n = false
is_growing valid.AllValid n = true
is_growing valid.AllInvalid n = false
is_growing (valid.Array bits) n = length bits == n

-- the validity of one item more than n; with the first null each item gets a bit
abbrev pub grown : Validity → ℕ → Bool → Validity
grown valid.NonNullable n is_valid = valid.NonNullable
grown valid.AllValid n true = valid.AllValid
grown valid.AllValid n false = valid.Array (replicate n true ++ false ∷ [])
grown valid.AllInvalid n is_valid = valid.AllInvalid
grown (valid.Array bits) n is_valid = valid.Array (bits ++ is_valid ∷ [])
