-- Ranges of items of which none is null.
use Rattle.std.proofs.Common.{◌≡◌, ℕ, ℤ, ◌+◌, ◌<◌, ◌++◌, ◌∷◌, [], List, Some, true, length, map, take, get_or, refl, ap, sym, ◌∙◌}
use Rattle.std.specs.List.{flat_map}
use Rattle.std.proofs.lemmas.List.{drop-map, flat_map_more, map-append, take-map, take_more}
use Rattle.fl_types.specs.Bits.{between}
use Rattle.fl_types.specs.Validities.{full_validity, items_of, nullability_of}
use Rattle.fl_types.specs.declared.dtype.Nullability.{Nullability}
use Rattle.fl_types.specs.declared.dtype.Nullability.TheVariants.{NonNullable, Nullable}
use Rattle.fl_column.specs.Columns.{PrimitiveParts, column_of_primitive}
use Rattle.fl_column.specs.Operations.{ranges_of}
use Rattle.fl_column.specs.Selections.{is_full}
use Rattle.fl_column.proofs.NamedLaws.{full_items}

-- the items of one more range
pub range_next : {A : Type 0} (xs : List A) (ranges : List (ℕ × ℕ)) (i : ℕ) (range : ℕ × ℕ) (old new : List A) → new ≡ old ++ between range.0 (range.0 + range.1) xs → old ≡ flat_map (λ r. between r.0 (r.0 + r.1) xs) (take i ranges)
    → range ≡ get_or ranges i (0, 0) → i < length ranges → new ≡ flat_map (λ r. between r.0 (r.0 + r.1) xs) (take (i + 1) ranges)
range_next xs ranges i range old new added before is within =
    rw (added, before, take_more ranges i (0, 0) within, ← is) (flat_map_more (λ r. between r.0 (r.0 + r.1) xs) [] (take i ranges) range)

-- the values of the items of ranges
pub ranges_map : {A B : Type 0} (f : A → B) (xs : List A) (ranges : List (ℕ × ℕ)) → flat_map (λ r. between r.0 (r.0 + r.1) (map f xs)) ranges ≡ map f (flat_map (λ r. between r.0 (r.0 + r.1) xs) ranges)
ranges_map f xs [] = refl
ranges_map f xs (range ∷ ranges) =
    let here : between range.0 (range.0 + range.1) (map f xs) ≡ map f (between range.0 (range.0 + range.1) xs) = rw (drop-map, take-map) refl in
    ap (λ l. l ++ flat_map (λ r. between r.0 (r.0 + r.1) (map f xs)) ranges) here ∙ ap (λ l. map f (between range.0 (range.0 + range.1) xs) ++ l) (ranges_map f xs ranges)
    ∙ sym (map-append f (between range.0 (range.0 + range.1) xs) (flat_map (λ r. between r.0 (r.0 + r.1) xs) ranges))

full_again : (n : Nullability) (zs : List ℤ) → items_of (full_validity n) zs ≡ map (λ z. Some z) zs
full_again NonNullable zs = refl
full_again Nullable zs = refl

nullable_again : (n : Nullability) → nullability_of (full_validity n) ≡ n
nullable_again NonNullable = refl
nullable_again Nullable = refl

-- the array of the slots of ranges
pub ranges_column : (a r : PrimitiveParts) (ranges : List (ℕ × ℕ)) (n : Nullability) → is_full a.validity ≡ true → n ≡ nullability_of a.validity
    → r ≡ record { ptype = a.ptype; slots = flat_map (λ range. between range.0 (range.0 + range.1) a.slots) ranges; validity = full_validity n } → ranges_of ranges (column_of_primitive a) ≡ column_of_primitive r
ranges_column a r ranges n full nullable parts =
    rw (parts, full_again n (flat_map (λ range. between range.0 (range.0 + range.1) a.slots) ranges), nullable_again n, nullable, full_items a.validity a.slots full, ranges_map (λ z. Some z) a.slots ranges) refl
