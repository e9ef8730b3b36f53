-- Casts of columns plus references.
use Rattle.std.proofs.Common.{◌≡◌, ◌∙◌, ℕ, ℤ, pos, ◌+◌, ◌≤◌, ◌/◌, Bool, true, false, not, List, length, map, get_or, Option, Some, None, Result, Ok, Err, refl, ap, sym, arith}
use Rattle.std.specs.Prelude.{◌&&◌, ◌||◌, if◌then◌else◌, is_none, is_some, option_map, unsigned_abs}
use Rattle.std.specs.List.{list_all, list_any}
use Rattle.std.proofs.lemmas.List.{length-map, get_or-map}
use Rattle.fl_types.specs.declared.dtype.DType.{DType}
use Rattle.fl_types.specs.declared.dtype.DType.TheVariants as dtypes
use Rattle.fl_types.specs.declared.dtype.Nullability.{Nullability}
use Rattle.fl_types.specs.declared.dtype.PType.{PType}
use Rattle.fl_types.specs.declared.error.FastLanesError.{FastLanesError}
use Rattle.fl_types.specs.declared.error.FastLanesError.TheVariants.{CastNull, CastOutOfRange, NotInteger}
use Rattle.fl_types.specs.Integers.{fits}
use Rattle.fl_types.specs.Types.{can_be_null, has_ptype, integer_type, is_integer, nullability_in, same_type}
use Rattle.fl_types.specs.Values.{fits_in}
use Rattle.fl_column.specs.Columns.{Column, integers_in, option_all}
use Rattle.fl_column.specs.Operations.{cast_column}
use Rattle.fl_types.specs.declared.dtype.Nullability.TheVariants.{NonNullable, Nullable}
use Rattle.fl_types.specs.Bits.{tabulate}
use Rattle.fl_codec.specs.RunColumns.{chunk_start, run_item}
use Rattle.fl_bitpacking.proofs.NullLaws.{all_there, nulls_alike}
use Rattle.fl_column.proofs.ListLaws.{any_from}
use Rattle.fl_codec.specs.FoRColumns.{chunked_for, global_for, plus_reference}
use Rattle.fl_codec.proofs.FoRSlices.{is_some-plus, length-chunked}
use Rattle.fl_codec.proofs.FirstRefusals.{same_ptype_is}
use Rattle.fl_codec.proofs.Tables.{get_or-table, length-table}
use Rattle.fl_array.specs.Ranges.{items_fit}
use Rattle.fl_array.proofs.RangeLaws.{all_chunked_sums, all_sums, integers_fit, runs_fit}
use Rattle.fl_ops.proofs.SelectedLaws.{mapped}

-- ---- casts
ok_or : (a : Bool) (q : PType) (n : Nullability) (xs ys : List (Option ℤ)) (g : Column → Column) → g (record { dtype = dtypes.Primitive q n; items = xs }) ≡ record { dtype = dtypes.Primitive q n; items = ys }
    → (let made : Result Column FastLanesError = Ok (record { dtype = dtypes.Primitive q n; items = ys }) in if a then Err CastNull else made) ≡ mapped g (if a then Err CastNull else Ok (record { dtype = dtypes.Primitive q n; items = xs }))
ok_or true q n xs ys g e = refl
ok_or false q n xs ys g e = ap (λ c. Ok c) (sym e)

or_not : (a b : Bool) (q : PType) (n : Nullability) (xs ys : List (Option ℤ)) (g : Column → Column) → g (record { dtype = dtypes.Primitive q n; items = xs }) ≡ record { dtype = dtypes.Primitive q n; items = ys }
    → (let made : Result Column FastLanesError = Ok (record { dtype = dtypes.Primitive q n; items = ys }) in if a then Err NotInteger else if b then Err CastNull else made) ≡ mapped g (if a then Err NotInteger else if b then Err CastNull else Ok (record { dtype = dtypes.Primitive q n; items = xs }))
or_not true b q n xs ys g e = refl
or_not false b q n xs ys g e = ok_or b q n xs ys g e

-- a cast of items with nulls in the same places, where all of both fit
pub cast_mapped : (q : PType) (n : Nullability) (d : DType) (xs ys : List (Option ℤ)) (g : Column → Column) → list_any is_none ys ≡ list_any is_none xs → list_all (option_all (fits q)) xs ≡ true → list_all (option_all (fits q)) ys ≡ true
    → g (record { dtype = dtypes.Primitive q n; items = xs }) ≡ record { dtype = dtypes.Primitive q n; items = ys }
    → cast_column (dtypes.Primitive q n) (record { dtype = d; items = ys }) ≡ mapped g (cast_column (dtypes.Primitive q n) (record { dtype = d; items = xs }))
cast_mapped q n d xs ys g nulls fit fit_too e =
    rw (nulls, fit, fit_too) (or_not (not (is_integer d)) (not (can_be_null n) && list_any is_none xs) q n xs ys g e)

-- ---- columns plus references
nulls_of_sums : (f : Option ℤ → Option ℤ) → ((x : Option ℤ) → is_some (f x) ≡ is_some x) → (xs : List (Option ℤ)) → list_any is_none (map f xs) ≡ list_any is_none xs
nulls_of_sums f each xs = nulls_alike xs (map f xs) (length-map xs f) (λ i h. ap (λ x. is_some x) (get_or-map f xs i None None h) ∙ each (get_or xs i None))

global_by : (reference : ℤ) (p : PType) (m : Nullability) (q : PType) (n : Nullability) (xs : List (Option ℤ)) → p ≡ q → list_all (option_all (fits p)) xs ≡ true
    → cast_column (dtypes.Primitive q n) (global_for reference (record { dtype = dtypes.Primitive p m; items = xs })) ≡ mapped (global_for reference) (cast_column (dtypes.Primitive q n) (record { dtype = dtypes.Primitive p m; items = xs }))
global_by reference p m q n xs same fit =
    let ys : List (Option ℤ) = map (plus_reference p reference) xs in
    let fit_q : list_all (option_all (fits q)) xs ≡ true = rw (← same) fit in
    let sums : list_all (option_all (fits q)) ys ≡ true = rw (← same) (all_sums p reference xs) in
    cast_mapped q n (dtypes.Primitive p m) xs ys (global_for reference) (nulls_of_sums (plus_reference p reference) (is_some-plus p reference) xs) fit_q sums
    (ap (λ r. record { dtype = dtypes.Primitive q n; items = map (plus_reference r reference) xs }) (sym same))

-- a cast to the same integer type of items plus one reference is the cast of the items, plus the reference
pub cast_of_global : (reference : ℤ) (target : DType) (c : Column) → same_type c.dtype target ≡ true → items_fit c ≡ true → cast_column target (global_for reference c) ≡ mapped (global_for reference) (cast_column target c)
cast_of_global reference (dtypes.Bool n) c same fit = refl
cast_of_global reference (dtypes.Primitive q n) c same fit = each c.dtype same fit
  where
    each : (d : DType) → same_type d (dtypes.Primitive q n) ≡ true → list_all (option_all (fits_in d)) c.items ≡ true
        → cast_column (dtypes.Primitive q n) (global_for reference (record { dtype = d; items = c.items })) ≡ mapped (global_for reference) (cast_column (dtypes.Primitive q n) (record { dtype = d; items = c.items }))
    each (dtypes.Primitive p m) same fit = global_by reference p m q n c.items (same_ptype_is p q same) fit
    each (dtypes.Bool m) same fit = cc

chunked_by : (references : List ℤ) (offset : ℕ) (p : PType) (m : Nullability) (q : PType) (n : Nullability) (xs : List (Option ℤ)) → p ≡ q → list_all (option_all (fits p)) xs ≡ true
    → cast_column (dtypes.Primitive q n) (chunked_for references offset (record { dtype = dtypes.Primitive p m; items = xs })) ≡ mapped (chunked_for references offset) (cast_column (dtypes.Primitive q n) (record { dtype = dtypes.Primitive p m; items = xs }))
chunked_by references offset p m q n xs same fit =
    let c : Column = record { dtype = dtypes.Primitive p m; items = xs } in
    let item : ℕ → Option ℤ = λ i. plus_reference p (get_or references ((offset + i) / 1024) (pos 0)) (get_or xs i None) in
    let ys : List (Option ℤ) = (chunked_for references offset c).items in
    let long : length ys ≡ length xs = length-chunked references offset c in
    let fit_q : list_all (option_all (fits q)) xs ≡ true = rw (← same) fit in
    let sums_p : list_all (option_all (fits p)) ys ≡ true = all_chunked_sums references offset p m xs in
    let sums : list_all (option_all (fits q)) ys ≡ true = rw (← same) sums_p in
    let nulls = nulls_alike xs ys long (λ i h. ap (λ x. is_some x) (get_or-table item (length xs) i None h) ∙ is_some-plus p (get_or references ((offset + i) / 1024) (pos 0)) (get_or xs i None)) in
    cast_mapped q n (dtypes.Primitive p m) xs ys (chunked_for references offset) nulls fit_q sums
    (ap (λ r. record { dtype = dtypes.Primitive q n; items = (chunked_for references offset (record { dtype = dtypes.Primitive r m; items = xs })).items }) (sym same))

-- the same where each chunk has a reference
pub cast_of_chunked : (references : List ℤ) (offset : ℕ) (target : DType) (c : Column) → same_type c.dtype target ≡ true → items_fit c ≡ true → cast_column target (chunked_for references offset c) ≡ mapped (chunked_for references offset) (cast_column target c)
cast_of_chunked references offset (dtypes.Bool n) c same fit = refl
cast_of_chunked references offset (dtypes.Primitive q n) c same fit = each c.dtype same fit
  where
    each : (d : DType) → same_type d (dtypes.Primitive q n) ≡ true → list_all (option_all (fits_in d)) c.items ≡ true
        → cast_column (dtypes.Primitive q n) (chunked_for references offset (record { dtype = d; items = c.items })) ≡ mapped (chunked_for references offset) (cast_column (dtypes.Primitive q n) (record { dtype = d; items = c.items }))
    each (dtypes.Primitive p m) same fit = chunked_by references offset p m q n c.items (same_ptype_is p q same) fit
    each (dtypes.Bool m) same fit = cc

-- ---- runs
pub cast_tests : (q : PType) (n : Nullability) (c d : Column) → cast_column (dtypes.Primitive q n) c ≡ Ok d → ((not (can_be_null n) && list_any is_none c.items) ≡ false) × ((list_all (option_all (fits q)) c.items ≡ true) × (record { dtype = dtypes.Primitive q n; items = c.items } ≡ d))
cast_tests q n c d h = each (not (is_integer c.dtype)) (not (can_be_null n) && list_any is_none c.items) (list_all (option_all (fits q)) c.items) h
  where
    each : (a b f : Bool) → (let made : Result Column FastLanesError = if f then Ok (record { dtype = dtypes.Primitive q n; items = c.items }) else Err CastOutOfRange in if a then Err NotInteger else if b then Err CastNull else made) ≡ Ok d
        → (b ≡ false) × ((f ≡ true) × (record { dtype = dtypes.Primitive q n; items = c.items } ≡ d))
    each false false true e = (refl, (refl, cc))
    each true b f e = cc
    each false true f e = cc
    each false false false e = cc

pub cast_ok : (q : PType) (n : Nullability) (p : PType) (m : Nullability) (ys : List (Option ℤ)) → (not (can_be_null n) && list_any is_none ys) ≡ false → list_all (option_all (fits q)) ys ≡ true
    → cast_column (dtypes.Primitive q n) (record { dtype = dtypes.Primitive p m; items = ys }) ≡ Ok (record { dtype = dtypes.Primitive q n; items = ys })
cast_ok q n p m ys nulls fit = rw (nulls, fit) refl

named_there : (values : List ℤ) (start : ℕ) (index : Option ℤ) → is_none (option_map (λ z. get_or values (start + unsigned_abs z) (pos 0)) index) ≡ is_none index
named_there values start None = refl
named_there values start (Some z) = refl

none_of_there : (x : Option ℤ) → is_some x ≡ true → is_none x ≡ false
none_of_there None h = cc
none_of_there (Some z) h = refl

no_null_named : (values : List ℤ) (indices : List (Option ℤ)) (offsets : List ℕ) (offset len : ℕ) → list_any is_none indices ≡ false → offset + len ≤ length indices → list_any is_none (tabulate (λ i. run_item values indices offsets (offset + i)) len) ≡ false
no_null_named values indices offsets offset len none within =
    let item : ℕ → Option ℤ = λ i. run_item values indices offsets (offset + i) in
    let long : length (tabulate item len) ≡ len = length-table item len in
    any_from is_none (tabulate item len) None (λ i h.
    ap (λ (x : Option ℤ). is_none x) (get_or-table item len i None (omega (arith, h, long)))
    ∙ named_there values (chunk_start offsets ((offset + i) / 1024)) (get_or indices (offset + i) None)
    ∙ none_of_there (get_or indices (offset + i) None) (all_there indices (offset + i) none (omega (arith, h, long, within))))

nulls_named : (n : Nullability) (values : List ℤ) (indices : List (Option ℤ)) (offsets : List ℕ) (offset len : ℕ) → (not (can_be_null n) && list_any is_none indices) ≡ false → offset + len ≤ length indices
    → (not (can_be_null n) && list_any is_none (tabulate (λ i. run_item values indices offsets (offset + i)) len)) ≡ false
nulls_named NonNullable values indices offsets offset len none within = no_null_named values indices offsets offset len none within
nulls_named Nullable values indices offsets offset len none within = refl

not_dropped : (n : Nullability) (b : Bool) → (can_be_null n || not b) ≡ true → (not (can_be_null n) && b) ≡ false
not_dropped NonNullable true h = cc
not_dropped NonNullable false h = refl
not_dropped Nullable b h = refl

-- a cast of what runs show, where all run values and all run indices have one
pub cast_of_runs : (q : PType) (n : Nullability) (p : PType) (m : Nullability) (v i : Column) (offsets : List ℕ) (offset len : ℕ) → list_all (option_all (fits q)) v.items ≡ true → (not (can_be_null n) && list_any is_none i.items) ≡ false → offset + len ≤ length i.items
    → (let items : List (Option ℤ) = tabulate (λ k. run_item (integers_in v) i.items offsets (offset + k)) len in
    cast_column (dtypes.Primitive q n) (record { dtype = dtypes.Primitive p m; items = items }) ≡ Ok (record { dtype = dtypes.Primitive q n; items = items }))
cast_of_runs q n p m v i offsets offset len fit none within =
    cast_ok q n p m (tabulate (λ k. run_item (integers_in v) i.items offsets (offset + k)) len)
    (nulls_named n (integers_in v) i.items offsets offset len none within)
    (runs_fit q n (integers_in v) i.items offsets offset len (integers_fit (record { dtype = dtypes.Primitive q n; items = v.items }) refl fit))

-- ---- casts where the integer type stays
pub same_cast_ok : (target : DType) (c : Column) → is_integer c.dtype ≡ true → same_type c.dtype target ≡ true → items_fit c ≡ true → (can_be_null (nullability_in target) || not (list_any is_none c.items)) ≡ true → cast_column target c ≡ Ok (record { dtype = target; items = c.items })
same_cast_ok target c whole same fit nulls = each target c.dtype whole same fit nulls
  where
    each : (t d : DType) → is_integer d ≡ true → same_type d t ≡ true → list_all (option_all (fits_in d)) c.items ≡ true → (can_be_null (nullability_in t) || not (list_any is_none c.items)) ≡ true
        → cast_column t (record { dtype = d; items = c.items }) ≡ Ok (record { dtype = t; items = c.items })
    each (dtypes.Primitive q n) (dtypes.Primitive p m) whole same fit nulls =
        let is : p ≡ q = same_ptype_is p q same in
        let fit_q : list_all (option_all (fits q)) c.items ≡ true = rw (← is) fit in
        cast_ok q n p m c.items (not_dropped n (list_any is_none c.items) nulls) fit_q
    each (dtypes.Primitive q n) (dtypes.Bool m) whole same fit nulls = cc
    each (dtypes.Bool n) (dtypes.Primitive p m) whole same fit nulls = cc
    each (dtypes.Bool n) (dtypes.Bool m) whole same fit nulls = cc

pub same_cast_null : (target : DType) (c : Column) → is_integer c.dtype ≡ true → same_type c.dtype target ≡ true → can_be_null (nullability_in target) ≡ false → list_any is_none c.items ≡ true → cast_column target c ≡ Err CastNull
same_cast_null (dtypes.Primitive q n) c whole same none null = rw (whole, none, null) refl
same_cast_null (dtypes.Bool n) c whole same none null = other c.dtype whole same
  where
    other : (d : DType) → is_integer d ≡ true → same_type d (dtypes.Bool n) ≡ true → (let refused : Result Column FastLanesError = Err NotInteger in refused) ≡ Err CastNull
    other (dtypes.Primitive p m) whole same = cc
    other (dtypes.Bool m) whole same = cc

-- a cast has the target's type and the same items
pub cast_is : (target : DType) (c d : Column) → cast_column target c ≡ Ok d → record { dtype = target; items = c.items } ≡ d
cast_is (dtypes.Primitive q n) c d h = (cast_tests q n c d h).1.1
cast_is (dtypes.Bool n) c d h = cc

pub cast_type : (target : DType) (c d : Column) → same_type c.dtype target ≡ true → cast_column target c ≡ Ok d → integer_type d.dtype ≡ integer_type c.dtype
cast_type (dtypes.Bool n) c d same h = cc
cast_type (dtypes.Primitive q n) c d same h = ap (λ (x : Column). integer_type x.dtype) (sym (cast_is (dtypes.Primitive q n) c d h)) ∙ each c.dtype same
  where
    each : (t : DType) → same_type t (dtypes.Primitive q n) ≡ true → integer_type (dtypes.Primitive q n) ≡ integer_type t
    each (dtypes.Primitive p m) same = ap (λ (x : PType). Some x) (sym (same_ptype_is p q same))
    each (dtypes.Bool m) same = cc

pub cast_items_are : (target : DType) (c d : Column) → cast_column target c ≡ Ok d → d.items ≡ c.items
cast_items_are target c d h = ap (λ (x : Column). x.items) (sym (cast_is target c d h))

pub target_is : (p : PType) (target : DType) → has_ptype p target ≡ true → dtypes.Primitive p (nullability_in target) ≡ target
target_is p (dtypes.Primitive q n) h = ap (λ (r : PType). dtypes.Primitive r n) (same_ptype_is p q h)
target_is p (dtypes.Bool n) h = cc
