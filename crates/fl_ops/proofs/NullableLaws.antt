-- Answers of comparisons with nullable constants.
use Rattle.std.proofs.Common.{◌≡◌, ◌∙◌, ℤ, List, Option, Ok, Err, ap, refl, sym}
use Rattle.fl_types.specs.declared.dtype.DType.TheVariants as dtypes
use Rattle.fl_types.specs.declared.dtype.Nullability.{Nullability}
use Rattle.fl_types.specs.declared.dtype.Nullability.TheVariants.{NonNullable, Nullable}
use Rattle.fl_types.specs.declared.error.FastLanesError.{FastLanesError}
use Rattle.fl_types.specs.Types.{either_nullable, nullability_in}
use Rattle.fl_types.specs.Validities.{nullability_of}
use Rattle.fl_types.specs.Values.{ScalarParts}
use Rattle.fl_column.specs.Columns.{BoolParts, Column, column_of_bools}
use Rattle.fl_types.specs.declared.query.BetweenOptions.{BetweenOptions}
use Rattle.fl_types.specs.declared.query.CompareOperator.{CompareOperator}
use Rattle.fl_types.specs.Refusals.{Refuses}
use Rattle.fl_types.proofs.RefusalLaws.{Refuses_map}
use Rattle.fl_column.specs.Queries.{between_column, compare_column}
use Rattle.fl_ops.specs.Queries.{between_scalars, compare_scalar, integer_in, mapped, nullable_with}

either_not : (n : Nullability) → either_nullable n NonNullable ≡ n
either_not NonNullable = refl
either_not Nullable = refl

either_may : (n : Nullability) → either_nullable n Nullable ≡ Nullable
either_may NonNullable = refl
either_may Nullable = refl

-- the answers of so many items, where nulls may stand or not
abbrev answers : List (Option ℤ) → Nullability → Column
answers items n = record { dtype = dtypes.Bool n; items = items }

pub as_they_are : (b : BoolParts) (constant : ScalarParts) → nullability_in constant.dtype ≡ NonNullable → column_of_bools b ≡ nullable_with constant (column_of_bools b)
as_they_are b constant h =
    let items = (column_of_bools b).items in
    sym (ap (λ m. answers items (either_nullable (nullability_of b.validity) m)) h ∙ ap (answers items) (either_not (nullability_of b.validity)))

pub made_nullable : (b c : BoolParts) (constant : ScalarParts) → nullability_in constant.dtype ≡ Nullable → column_of_bools c ≡ record { dtype = dtypes.Bool Nullable; items = (column_of_bools b).items } → column_of_bools c ≡ nullable_with constant (column_of_bools b)
made_nullable b c constant h is =
    let items = (column_of_bools b).items in
    is ∙ sym (ap (λ m. answers items (either_nullable (nullability_of b.validity) m)) h ∙ ap (answers items) (either_may (nullability_of b.validity)))

-- ---- what a comparison with a constant answers, by the one with its integer
pub compared_with : (operator : CompareOperator) (constant : ScalarParts) (z : ℤ) (c d r : Column) → z ≡ integer_in constant → compare_column operator z c ≡ Ok d → r ≡ nullable_with constant d → compare_scalar operator constant c ≡ Ok r
compared_with operator constant z c d r same h is =
    ap (λ k. mapped (nullable_with constant) (compare_column operator k c)) (sym same) ∙ ap (mapped (nullable_with constant)) h ∙ ap (λ x. Ok x) (sym is)

pub compare_refused : (e : FastLanesError) (operator : CompareOperator) (constant : ScalarParts) (z : ℤ) (c : Column) → z ≡ integer_in constant → Refuses e (compare_column operator z c) → Refuses e (compare_scalar operator constant c)
compare_refused e operator constant z c same h =
    Refuses_map e (compare_column operator z c) (compare_scalar operator constant c)
    (λ (refused : compare_column operator z c ≡ Err e). ap (λ k. mapped (nullable_with constant) (compare_column operator k c)) (sym same) ∙ ap (mapped (nullable_with constant)) refused) h

pub between_with : (lower upper : ScalarParts) (options : BetweenOptions) (low high : ℤ) (c d n r : Column) → low ≡ integer_in lower → high ≡ integer_in upper → between_column low high options c ≡ Ok d → n ≡ nullable_with lower d → r ≡ nullable_with upper n → between_scalars lower upper options c ≡ Ok r
between_with lower upper options low high c d n r same_low same_high h first second =
    let both : Column → Column = λ answers. nullable_with upper (nullable_with lower answers) in
    ap (λ k. mapped both (between_column k (integer_in upper) options c)) (sym same_low) ∙ ap (λ k. mapped both (between_column low k options c)) (sym same_high)
    ∙ ap (mapped both) h ∙ ap (λ x. Ok (nullable_with upper x)) (sym first) ∙ ap (λ x. Ok x) (sym second)

pub between_refused : (e : FastLanesError) (lower upper : ScalarParts) (options : BetweenOptions) (low high : ℤ) (c : Column) → low ≡ integer_in lower → high ≡ integer_in upper → Refuses e (between_column low high options c) → Refuses e (between_scalars lower upper options c)
between_refused e lower upper options low high c same_low same_high h =
    let both : Column → Column = λ answers. nullable_with upper (nullable_with lower answers) in
    Refuses_map e (between_column low high options c) (between_scalars lower upper options c)
    (λ (refused : between_column low high options c ≡ Err e). ap (λ k. mapped both (between_column k (integer_in upper) options c)) (sym same_low) ∙ ap (λ k. mapped both (between_column low k options c)) (sym same_high) ∙ ap (mapped both) refused) h

pub ruleset comparisons = (compared_with, compare_refused, between_with, between_refused)
