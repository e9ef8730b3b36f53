-- What holds of every column.
use Rattle.std.proofs.Common.{◌≡◌, ℕ, ℤ, pos, negsuc, int_le, nat_lt, ◌+◌, ◌-◌, ◌<◌, ◌≤◌, ◌&&◌, not, Bool, true, false, List, [], ◌∷◌, map, drop, get_or, Option, Some, None, Ok, Err, is_none, if◌then◌else◌, refl, ap, ◌∙◌, arith}
use Rattle.std.specs.List.{list_all, list_any}
use Rattle.std.proofs.lemmas.List.{drop-take, take-take, drop-drop, get_or-take, get_or-drop}
use Rattle.std.proofs.lemmas.Bool.Decides.{Decides-ltb}
use Rattle.fl_types.specs.Bits.{between}
use Rattle.fl_column.specs.Columns.{Column, option_all}
use Rattle.fl_types.specs.Integers.{fits}
use Rattle.fl_column.specs.Operations.{cast_column, is_in_range, item_named, moved, slice_of, take_of}
use Rattle.fl_column.specs.Queries.{scalar_in}
use Rattle.fl_column.proofs.ListLaws.{and_first, and_second}
use Rattle.fl_types.specs.Types.{can_be_null, either_nullable, is_integer, nullability_in, with_nullability}
use Rattle.fl_types.specs.declared.dtype.DType.{DType}
use Rattle.fl_types.specs.declared.dtype.DType.TheVariants as dtypes
use Rattle.fl_types.specs.declared.error.FastLanesError.TheVariants.{NotInteger, CastNull, CastOutOfRange}

between_of_between : {A : Type 0} (xs : List A) (start end from to : ℕ) → start ≤ end → from ≤ to → to ≤ end - start → between from to (between start end xs) ≡ between (start + from) (start + to) xs
between_of_between xs start end from to o i w =
    let rest = end - start - from in
    let whole : end - start ≡ from + rest = omega arith in
    let fewer : to - from ≤ rest = omega arith in
    let many : start + to - (start + from) ≡ to - from = omega arith in
    rw (whole, drop-take from rest (drop start xs), drop-drop, many) (take-take (to - from) rest (drop (start + from) xs) fewer)

-- a slice of a slice is a slice
pub slice_of_slice : (c : Column) (start end from to : ℕ) → start ≤ end → from ≤ to → to ≤ end - start → slice_of from to (slice_of start end c) ≡ slice_of (start + from) (start + to) c
slice_of_slice c start end from to o i w = ap (λ xs. record { dtype = c.dtype; items = xs }) (between_of_between c.items start end from to o i w)

ok_by_test : {A E : Type 0} (b : Bool) (x y : A) (e : E) → (if b then Ok x else Err e) ≡ Ok y → x ≡ y
ok_by_test true x y e h = cc
ok_by_test false x y e h = cc

ok_by_tests : {A E : Type 0} (a b c : Bool) (x y : A) (e f g : E) → (if a then Err e else if b then Err f else if c then Ok x else Err g) ≡ Ok y → x ≡ y
ok_by_tests true b c x y e f g h = cc
ok_by_tests false true c x y e f g h = cc
ok_by_tests false false c x y e f g h = ok_by_test c x y g h

integer_by_tests : {A E : Type 0} (a b c : Bool) (x y : A) (e f g : E) → (if a then Err e else if b then Err f else if c then Ok x else Err g) ≡ Ok y → a ≡ false
integer_by_tests true b c x y e f g h = cc
integer_by_tests false b c x y e f g h = refl

-- a cast after a cast is the cast
pub cast_of_cast : (first second : DType) (c d : Column) → cast_column first c ≡ Ok d → cast_column second d ≡ cast_column second c
cast_of_cast (dtypes.Bool m) second c d e = cc
cast_of_cast (dtypes.Primitive p n) (dtypes.Bool m) c d e = refl
cast_of_cast (dtypes.Primitive p n) (dtypes.Primitive q m) c d e =
    let made : Column = record { dtype = dtypes.Primitive p n; items = c.items } in
    let same : made ≡ d = ok_by_tests (not (is_integer c.dtype)) (not (can_be_null n) && list_any is_none c.items) (list_all (option_all (fits p)) c.items) made d NotInteger CastNull CastOutOfRange e in
    let whole : not (is_integer c.dtype) ≡ false = integer_by_tests (not (is_integer c.dtype)) (not (can_be_null n) && list_any is_none c.items) (list_all (option_all (fits p)) c.items) made d NotInteger CastNull CastOutOfRange e in
    rw (← same, whole) refl

item_of_between : {A : Type 0} (xs : List A) (start end i : ℕ) (d : A) → i < end - start → get_or (between start end xs) i d ≡ get_or xs (start + i) d
item_of_between xs start end i d below = get_or-take (end - start) (drop start xs) i d below ∙ get_or-drop start xs i d

pub item_of_slice : (c : Column) (start end i : ℕ) → i < end - start → scalar_in (slice_of start end c) i ≡ scalar_in c (start + i)
item_of_slice c start end i below = ap (λ item. record { dtype = c.dtype; value = item }) (item_of_between c.items start end i None below)

named_of_between : (xs : List (Option ℤ)) (start end : ℕ) (index : Option ℤ) → is_in_range (end - start) index ≡ true → item_named (between start end xs) index ≡ item_named xs (moved start index)
named_of_between xs start end None within = refl
named_of_between xs start end (Some (pos n)) within = item_of_between xs start end n None ((Decides-ltb n (end - start)).0 (and_second (int_le (pos 0) (pos n)) (nat_lt n (end - start)) within))
named_of_between xs start end (Some (negsuc n)) within = absurd cc

taken_of_between : (xs indices : List (Option ℤ)) (start end : ℕ) → list_all (is_in_range (end - start)) indices ≡ true → map (item_named (between start end xs)) indices ≡ map (λ index. item_named xs (moved start index)) indices
taken_of_between xs [] start end within = refl
taken_of_between xs (index ∷ indices) start end within =
    let first = named_of_between xs start end index (and_first (is_in_range (end - start) index) (list_all (is_in_range (end - start)) indices) within) in
    let rest = taken_of_between xs indices start end (and_second (is_in_range (end - start) index) (list_all (is_in_range (end - start)) indices) within) in
    (λ i. first i ∷ rest i)

pub take_of_slice : (c indices : Column) (start end : ℕ) → list_all (is_in_range (end - start)) indices.items ≡ true → take_of indices (slice_of start end c) ≡ record { dtype = (take_of indices c).dtype; items = map (λ index. item_named c.items (moved start index)) indices.items }
take_of_slice c indices start end within = ap (λ items. record { dtype = with_nullability (either_nullable (nullability_in c.dtype) (nullability_in indices.dtype)) c.dtype; items = items }) (taken_of_between c.items indices.items start end within)
