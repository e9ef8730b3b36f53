-- Masks that keep all and that keep none, and ranges that are refused.
use Rattle.std.proofs.Common.{◌≡◌, ℕ, Bool, true, false, List, [], length, not, Option, Some, None, Result, Ok, Err, refl}
use Rattle.std.specs.Prelude.{if◌then◌else◌, is_none, ok_or}
use Rattle.std.specs.List.{list_all}
use Rattle.std.proofs.lemmas.Bool.{eq-eqb}
use Rattle.fl_types.specs.declared.dtype.DType.TheVariants.{Primitive}
use Rattle.fl_types.specs.declared.dtype.Nullability.{Nullability}
use Rattle.fl_types.specs.declared.dtype.Nullability.TheVariants.{NonNullable, Nullable}
use Rattle.fl_types.specs.declared.dtype.PType.{PType}
use Rattle.fl_types.specs.declared.error.FastLanesError.{FastLanesError}
use Rattle.fl_types.specs.declared.error.FastLanesError.TheVariants.{LengthOverflow, RangeOutOfBounds}
use Rattle.fl_types.specs.declared.mask.Mask.TheVariants.{AllFalse, AllTrue}
use Rattle.fl_types.specs.Types.{is_integer}
use Rattle.fl_column.specs.Columns.{Column, column_of_primitive, without_nulls}
use Rattle.fl_column.specs.Operations.{filter_column, filter_of, range_fits, ranges_column, ranges_of, ranges_total, total_of}
use Rattle.fl_column.proofs.SelectionLaws.{kept_all, kept_none}

-- a mask that keeps all keeps the column
pub all_kept : (c : Column) (n : ℕ) → n ≡ length c.items → filter_of (AllTrue n) c ≡ c
all_kept c n e = rw (kept_all n c.items e) refl

-- a mask that keeps none keeps no item
pub none_kept : (c : Column) (n : ℕ) (ptype : PType) (nullability : Nullability) → n ≡ length c.items → Primitive ptype nullability ≡ c.dtype → filter_column (AllFalse n) c ≡ Ok (column_of_primitive (without_nulls ptype nullability []))
none_kept c n ptype NonNullable e typed = rw (eq-eqb n (length c.items) e, ← typed, kept_none n c.items) refl
none_kept c n ptype Nullable e typed = rw (eq-eqb n (length c.items) e, ← typed, kept_none n c.items) refl

-- ranges have the refusal that their total has
pub refused_as : (ranges : List (ℕ × ℕ)) (c : Column) (e f : FastLanesError) → is_integer c.dtype ≡ true → ranges_total (length c.items) ranges ≡ Err f → ranges_column ranges c ≡ Err e → f ≡ e
refused_as ranges c e f whole total refused = each (list_all (range_fits (length c.items)) ranges) (total_of ranges) total (rw whole at refused)
  where
    each : (fit : Bool) (t : Option ℕ) → (let r : Result ℕ FastLanesError = if not fit then Err RangeOutOfBounds else ok_or t LengthOverflow in r) ≡ Err f
        → (let r : Result Column FastLanesError = if not fit then Err RangeOutOfBounds else if is_none t then Err LengthOverflow else Ok (ranges_of ranges c) in r) ≡ Err e → f ≡ e
    each false t a b = cc
    each true None a b = cc
    each true (Some n) a b = cc

-- where there is a total there is no refusal
pub not_refused : (ranges : List (ℕ × ℕ)) (c : Column) (e : FastLanesError) (n : ℕ) → is_integer c.dtype ≡ true → ranges_total (length c.items) ranges ≡ Ok n → ranges_column ranges c ≡ Err e → ⊥
not_refused ranges c e n whole total refused = each (list_all (range_fits (length c.items)) ranges) (total_of ranges) total (rw whole at refused)
  where
    each : (fit : Bool) (t : Option ℕ) → (let r : Result ℕ FastLanesError = if not fit then Err RangeOutOfBounds else ok_or t LengthOverflow in r) ≡ Ok n
        → (let r : Result Column FastLanesError = if not fit then Err RangeOutOfBounds else if is_none t then Err LengthOverflow else Ok (ranges_of ranges c) in r) ≡ Err e → ⊥
    each false t a b = cc
    each true None a b = cc
    each true (Some m) a b = cc
