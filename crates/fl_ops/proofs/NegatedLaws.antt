-- Answers that negate each other.
use Rattle.std.proofs.Common.{◌≡◌, ◌∙◌, ◌-◌, ◌≤◌, ℕ, ℤ, pos, Bool, true, false, not, List, [], ◌∷◌, length, map, Option, Some, None, Ok, Err, refl, ap, sym}
use Rattle.std.specs.Prelude.{◌&&◌, if◌then◌else◌, option_map}
use Rattle.std.specs.List.{list_all}
use Rattle.std.specs.Ordering.{int_eq}
use Rattle.fl_types.specs.declared.error.FastLanesError.{FastLanesError}
use Rattle.fl_types.specs.declared.error.FastLanesError.TheVariants.{IndexOutOfBounds, NotInteger}
use Rattle.fl_types.specs.declared.dtype.DType.TheVariants as dtypes
use Rattle.fl_types.specs.declared.query.CompareOperator.TheVariants.{Eq, NotEq}
use Rattle.fl_types.specs.Types.{either_nullable, is_integer, nullability_in}
use Rattle.fl_types.specs.Values.{bool_number}
use Rattle.fl_column.specs.Columns.{Column}
use Rattle.fl_column.specs.Operations.{is_in_range, item_named, moved, slice_of, take_column, take_of}
use Rattle.fl_types.specs.Values.{ScalarParts}
use Rattle.fl_column.specs.Queries.{holds, tested}
use Rattle.fl_column.proofs.ColumnAlgebra.{take_of_slice}
use Rattle.fl_column.proofs.ItemLaws.{length-between}
use Rattle.fl_ops.specs.Queries.{compare_scalar, integer_in, mapped, nullable_with, negated}

negated_number : (b : Bool) → bool_number (int_eq (bool_number b) (pos 0)) ≡ bool_number (not b)
negated_number true = refl
negated_number false = refl

negated_items : (k : ℤ) (items : List (Option ℤ)) → map (option_map (λ z. bool_number (not (int_eq z k)))) items ≡ map (option_map (λ z. bool_number (int_eq z (pos 0)))) (map (option_map (λ z. bool_number (int_eq z k))) items)
negated_items k [] = refl
negated_items k (None ∷ items) = ap (λ rest. None ∷ rest) (negated_items k items)
negated_items k (Some z ∷ items) = (λ i. Some (sym (negated_number (int_eq z k)) i) ∷ negated_items k items i)

made_by : (k : ScalarParts) (b : Bool) (x y : Column) → mapped (nullable_with k) (if b then Ok x else Err NotInteger) ≡ Ok y → nullable_with k x ≡ y
made_by k true x y h = cc
made_by k false x y h = cc

pub unequal_is_negated : (k : ScalarParts) (c equal differing : Column) → compare_scalar Eq k c ≡ Ok equal → compare_scalar NotEq k c ≡ Ok differing → differing ≡ negated equal
unequal_is_negated k c equal differing e f =
    let z = integer_in k in
    let same = made_by k (is_integer c.dtype) (tested (holds Eq z) c) equal e in
    let other = made_by k (is_integer c.dtype) (tested (holds NotEq z) c) differing f in
    sym other ∙ ap (λ xs. record { dtype = dtypes.Bool (either_nullable (nullability_in c.dtype) (nullability_in k.dtype)); items = xs }) (negated_items z c.items) ∙ ap negated same

-- ---- takes of slices
pub taken_of_slice : (indices c part taken : Column) (start end : ℕ) → start ≤ end → end ≤ length c.items → part ≡ slice_of start end c → take_column indices part ≡ Ok taken → taken.items ≡ map (λ index. item_named c.items (moved start index)) indices.items
taken_of_slice indices c part taken start end order range is h =
    let long : length part.items ≡ end - start = ap (λ (x : Column). length x.items) is ∙ length-between c.items start end order range in
    let tests = take_tests indices part taken h in
    let within : list_all (is_in_range (end - start)) indices.items ≡ true = ap (λ n. list_all (is_in_range n) indices.items) (sym long) ∙ tests.0 in
    ap (λ (x : Column). x.items) (sym tests.1 ∙ ap (take_of indices) is ∙ take_of_slice c indices start end within)
  where
    each : (a b : Bool) (x y : Column) (e g : FastLanesError) → (if not a then Err e else if not b then Err g else Ok x) ≡ Ok y → (b ≡ true) × (x ≡ y)
    each true true x y e g h = (refl, cc)
    each true false x y e g h = cc
    each false b x y e g h = cc

    take_tests : (indices c taken : Column) → take_column indices c ≡ Ok taken → (list_all (is_in_range (length c.items)) indices.items ≡ true) × (take_of indices c ≡ taken)
    take_tests indices c taken h = each (is_integer c.dtype && is_integer indices.dtype) (list_all (is_in_range (length c.items)) indices.items) (take_of indices c) taken NotInteger IndexOutOfBounds h
