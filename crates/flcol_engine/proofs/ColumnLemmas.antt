-- The plain array of a column has this column.
use Rattle.std.proofs.Common.{◌≡◌, ℤ, pos, Bool, true, false, not, cond, ◌||◌, List, [], ◌∷◌, map, None, Some, refl, ap}
use Rattle.std.specs.Prelude.{Option, is_some, unwrap_or, IsTrue}
use Rattle.std.specs.List.{list_all}
use Rattle.fl_types.specs.declared.dtype.DType.TheVariants.{Primitive}
use Rattle.fl_types.specs.declared.dtype.Nullability.{Nullability}
use Rattle.fl_types.specs.declared.dtype.Nullability.TheVariants.{NonNullable, Nullable}
use Rattle.fl_types.specs.declared.dtype.PType.{PType}
use Rattle.fl_types.specs.declared.validity.Validity.TheVariants as valid
use Rattle.fl_types.specs.Integers.{fits}
use Rattle.fl_types.specs.Types.{can_be_null}
use Rattle.fl_types.specs.Validities.{items_of, masked, nullability_of}
use Rattle.fl_column.specs.Columns.{column_of_primitive, is_column, option_all}
use Rattle.fl_column.proofs.ListLaws.{and_second}
use Rattle.flcol_engine.specs.Text.{primitive_of_column, validity_of_bits}

-- the slot of an item
abbrev pub slot : Option ℤ → ℤ
slot item = unwrap_or item (pos 0)

no_nulls : (items : List (Option ℤ)) → list_all is_some items ≡ true → map (λ z. Some z) (map slot items) ≡ items
no_nulls [] h = refl
no_nulls (Some z ∷ items) h = ap (λ xs. Some z ∷ xs) (no_nulls items h)
no_nulls (None ∷ items) h = cc

only_nulls : (items : List (Option ℤ)) → list_all not (map (λ i. is_some i) items) ≡ true → map (λ z. None) (map slot items) ≡ items
only_nulls [] h = refl
only_nulls (Some z ∷ items) h = cc
only_nulls (None ∷ items) h = ap (λ xs. None ∷ xs) (only_nulls items h)

by_bits : (items : List (Option ℤ)) → masked (map (λ i. is_some i) items) (map slot items) ≡ items
by_bits [] = refl
by_bits (Some z ∷ items) = ap (λ xs. Some z ∷ xs) (by_bits items)
by_bits (None ∷ items) = ap (λ xs. None ∷ xs) (by_bits items)

all_bits : (items : List (Option ℤ)) → list_all (λ bit. bit) (map (λ i. is_some i) items) ≡ list_all is_some items
all_bits [] = refl
all_bits (Some z ∷ items) = all_bits items
all_bits (None ∷ items) = refl

items_back : (n : Nullability) (items : List (Option ℤ)) → (can_be_null n || list_all is_some items) ≡ true → items_of (validity_of_bits n (map (λ i. is_some i) items)) (map slot items) ≡ items
items_back NonNullable items h = no_nulls items h
items_back Nullable items h = at_tests _ _ (λ p. no_nulls items (all_bits_are p)) (only_nulls items)
  where
    all_bits_are : list_all (λ bit. bit) (map (λ i. is_some i) items) ≡ true → list_all is_some items ≡ true
    all_bits_are p = rw all_bits at p

    at_tests : (p q : Bool) → (p ≡ true → map (λ z. Some z) (map slot items) ≡ items) → (q ≡ true → map (λ z. None) (map slot items) ≡ items)
        → items_of (cond p valid.AllValid (cond q valid.AllInvalid (valid.Array (map (λ i. is_some i) items)))) (map slot items) ≡ items
    at_tests true q full empty = full refl
    at_tests false true full empty = empty refl
    at_tests false false full empty = by_bits items

nullability_back : (n : Nullability) (bits : List Bool) → nullability_of (validity_of_bits n bits) ≡ n
nullability_back NonNullable bits = refl
nullability_back Nullable bits = at_tests (list_all (λ bit. bit) bits) (list_all not bits)
  where
    at_tests : (p q : Bool) → nullability_of (cond p valid.AllValid (cond q valid.AllInvalid (valid.Array bits))) ≡ Nullable
    at_tests true q = refl
    at_tests false true = refl
    at_tests false false = refl

-- the array that a column is read into has the column
pub column_back : (ptype : PType) (n : Nullability) (items : List (Option ℤ)) → IsTrue (is_column (record { dtype = Primitive ptype n; items = items }))
    → column_of_primitive (primitive_of_column (record { dtype = Primitive ptype n; items = items })) ≡ record { dtype = Primitive ptype n; items = items }
column_back ptype n items is =
    let nulls = and_second (list_all (option_all (fits ptype)) items) (can_be_null n || list_all is_some items) is in
    rw (nullability_back n (map (λ i. is_some i) items), items_back n items nulls) refl
