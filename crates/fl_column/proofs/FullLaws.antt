-- Arrays without a null.
use Rattle.std.proofs.Common.{◌≡◌, ℕ, ℤ, true, false, List, [], ◌∷◌, map, Some, refl}
use Rattle.std.specs.List.{list_any}
use Rattle.std.specs.Prelude.{is_none}
use Rattle.fl_types.specs.Validities.{covers, full_validity, items_of}
use Rattle.fl_types.specs.declared.dtype.Nullability.{Nullability}
use Rattle.fl_types.specs.declared.dtype.Nullability.TheVariants.{NonNullable, Nullable}

-- their validity covers any number of items
pub covers_full : (nullability : Nullability) (n : ℕ) → covers (full_validity nullability) n ≡ true
covers_full NonNullable n = refl
covers_full Nullable n = refl

none_null : (zs : List ℤ) → list_any is_none (map (λ z. Some z) zs) ≡ false
none_null [] = refl
none_null (z ∷ zs) = none_null zs

-- none of their items is one
pub no_null : (nullability : Nullability) (zs : List ℤ) → list_any is_none (items_of (full_validity nullability) zs) ≡ false
no_null NonNullable zs = none_null zs
no_null Nullable zs = none_null zs
