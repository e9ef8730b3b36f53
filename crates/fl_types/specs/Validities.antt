-- Which items of an array are not null.
use Rattle.std.specs.Prelude.{◌==◌, ℕ, Bool, true, false, List, [], ◌∷◌, length, map, Option, Some, None, slice_index_or, if◌then◌else◌}
use Rattle.fl_types.specs.declared.dtype.Nullability.{Nullability}
use Rattle.fl_types.specs.declared.dtype.Nullability.TheVariants.{NonNullable, Nullable}
use Rattle.fl_types.specs.declared.validity.Validity.{Validity}
use Rattle.fl_types.specs.declared.validity.Validity.TheVariants as valid
use Rattle.fl_types.specs.Bits.{between}

-- whether nulls may stand under a validity
abbrev pub nullability_of : Validity → Nullability
nullability_of valid.NonNullable = NonNullable
nullability_of valid.AllValid = Nullable
nullability_of valid.AllInvalid = Nullable
nullability_of (valid.Array bits) = Nullable

-- the validity of an array without a null, where nulls may stand or not
abbrev pub full_validity : Nullability → Validity
full_validity NonNullable = valid.NonNullable
full_validity Nullable = valid.AllValid

-- an item where its bit is set, a null where it is not
abbrev pub masked : {A : Type 0} → List Bool → List A → List (Option A)
masked [] items = []
masked (bit ∷ bits) [] = []
masked (bit ∷ bits) (x ∷ items) = (if bit then Some x else None) ∷ masked bits items

-- the items under a validity
abbrev pub items_of : {A : Type 0} → Validity → List A → List (Option A)
items_of valid.NonNullable items = map (λ x. Some x) items
items_of valid.AllValid items = map (λ x. Some x) items
items_of valid.AllInvalid items = map (λ x. None) items
items_of (valid.Array bits) items = masked bits items

-- a list of bits has one bit for each item; the other validities cover any number
abbrev pub covers : Validity → ℕ → Bool
covers valid.NonNullable n = true
covers valid.AllValid n = true
covers valid.AllInvalid n = true
covers (valid.Array bits) n = length bits == n

-- the item at an index is not null
abbrev pub is_valid_at : Validity → ℕ → Bool
is_valid_at valid.NonNullable i = true
is_valid_at valid.AllValid i = true
is_valid_at valid.AllInvalid i = false
is_valid_at (valid.Array bits) i = slice_index_or bits i false

-- the validity of the items from start to below end
abbrev pub validity_between : ℕ → ℕ → Validity → Validity
validity_between start end valid.NonNullable = valid.NonNullable
validity_between start end valid.AllValid = valid.AllValid
validity_between start end valid.AllInvalid = valid.AllInvalid
validity_between start end (valid.Array bits) = valid.Array (between start end bits)
