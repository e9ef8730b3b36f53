-- Items at the positions that ranges name.
use Rattle.std.proofs.Common.{◌≡◌, ◌∙◌, ℕ, ℤ, pos, zero, suc, ◌+◌, ◌-◌, ◌<◌, ◌≤◌, ◌^◌, Bool, true, false, List, [], ◌∷◌, ◌++◌, length, map, take, drop, get_or, Option, Some, None, Ok, nat_le, nat_lt, refl, ap, sym, arith}
use Rattle.std.specs.Prelude.{◌==◌, flat_map}
use Rattle.std.specs.List.{list_all, range_with_len}
use Rattle.std.proofs.lemmas.List.{append-nil, append_assoc, drop_all, drop_more, map-append, take_more, flat_map_more}
use Rattle.std.proofs.lemmas.Bool.{le-leb, lt-ltb}
use Rattle.std.proofs.lemmas.Bool.Decides.{nat_tests}
use Rattle.fl_types.specs.declared.dtype.DType.{DType}
use Rattle.fl_types.specs.declared.dtype.DType.TheVariants as dtypes
use Rattle.fl_types.specs.declared.dtype.Nullability.TheVariants.{NonNullable, Nullable}
use Rattle.fl_types.specs.declared.dtype.PType.TheVariants.{U64}
use Rattle.fl_types.specs.declared.mask.Mask.{Mask}
use Rattle.fl_types.specs.Bits.{between}
use Rattle.fl_types.specs.Masks.{mask_bits, mask_len}
use Rattle.fl_types.specs.Types.{either_nullable, is_integer, nullability_in, with_nullability}
use Rattle.fl_types.proofs.MaskLaws.{length-mask_bits}
use Rattle.fl_column.specs.Columns.{Column, column_of_primitive, non_nullable}
use Rattle.fl_column.specs.Operations.{filter_column, filter_of, is_in_range, item_named, kept, range_fits, ranges_column, ranges_of, take_column, total_of}
use Rattle.fl_column.proofs.ListLaws.{all_at, and_first, and_second, and_true, list_all-append}
use Rattle.fl_array.specs.BitPackedArrays.{BitPackedArrayParts, tree_of_bitpacked}
use Rattle.fl_array.specs.Trees.{column}
use Rattle.fl_array.proofs.BitPackedLaws.{bitpacked_dtype}
use Rattle.fl_ops.specs.Takes.{at_positions, range_positions}

-- ---- a take by positions
below_is_in_range : (len i : ℕ) → nat_lt i len ≡ true → is_in_range len (Some (pos i)) ≡ true
below_is_in_range len i h = and_true (nat_le 0 i) (nat_lt i len) (le-leb 0 i (omega arith)) h

all_in_range : (len : ℕ) (positions : List ℕ) → list_all (λ i. nat_lt i len) positions ≡ true → list_all (is_in_range len) (map (λ z. Some z) (map (λ n. pos n) positions)) ≡ true
all_in_range len [] h = refl
all_in_range len (i ∷ positions) h =
    let here = and_first (nat_lt i len) (list_all (λ k. nat_lt k len) positions) h in
    let others = and_second (nat_lt i len) (list_all (λ k. nat_lt k len) positions) h in
    and_true (is_in_range len (Some (pos i))) (list_all (is_in_range len) (map (λ z. Some z) (map (λ n. pos n) positions))) (below_is_in_range len i here) (all_in_range len positions others)

named_at : (items : List (Option ℤ)) (positions : List ℕ) → map (item_named items) (map (λ z. Some z) (map (λ n. pos n) positions)) ≡ map (λ i. get_or items i None) positions
named_at items [] = refl
named_at items (i ∷ positions) = ap (λ rest. get_or items i None ∷ rest) (named_at items positions)

same_type : (d : DType) → with_nullability (either_nullable (nullability_in d) NonNullable) d ≡ d
same_type (dtypes.Primitive p NonNullable) = refl
same_type (dtypes.Primitive p Nullable) = refl
same_type (dtypes.Bool NonNullable) = refl
same_type (dtypes.Bool Nullable) = refl

-- a take by positions that are there gives the items at them
pub taken_at : (positions : List ℕ) (c : Column) → is_integer c.dtype ≡ true → list_all (λ i. nat_lt i (length c.items)) positions ≡ true
    → take_column (column_of_primitive (non_nullable U64 (map (λ n. pos n) positions))) c ≡ Ok (at_positions positions c)
taken_at positions c typed below =
    let there = all_in_range (length c.items) positions below in
    rw (typed, there, named_at c.items positions, same_type c.dtype) refl

-- packed items are integers
pub packed_integers : (a : BitPackedArrayParts) → is_integer (column (tree_of_bitpacked a)).dtype ≡ true
packed_integers a = ap is_integer (bitpacked_dtype a)

-- ranges that fit and a mask of the column's length are not refused
pub ranges_made : (ranges : List (ℕ × ℕ)) (c : Column) (total : ℕ) → is_integer c.dtype ≡ true → list_all (range_fits (length c.items)) ranges ≡ true → total_of ranges ≡ Some total → ranges_column ranges c ≡ Ok (ranges_of ranges c)
ranges_made ranges c total typed fit few = rw (typed, fit, few) refl

pub filter_made : (mask : Mask) (c : Column) → is_integer c.dtype ≡ true → mask_len mask ≡ length c.items → filter_column mask c ≡ Ok (filter_of mask c)
filter_made mask c typed long =
    let same : (mask_len mask == length c.items) ≡ true = grind (arith, nat_tests) in
    rw (typed, same) refl

-- ---- ranges
-- a range that lies among some items lies among more
fits_more : (len most : ℕ) (range : ℕ × ℕ) → len ≤ most → range_fits len range ≡ true → range_fits most range ≡ true
fits_more len most range more h = grind (arith, nat_tests)

pub all_fit_more : (len most : ℕ) (ranges : List (ℕ × ℕ)) → len ≤ most → list_all (range_fits len) ranges ≡ true → list_all (range_fits most) ranges ≡ true
all_fit_more len most [] more h = refl
all_fit_more len most (range ∷ ranges) more h =
    and_true (range_fits most range) (list_all (range_fits most) ranges)
    (fits_more len most range more (and_first (range_fits len range) (list_all (range_fits len) ranges) h))
    (all_fit_more len most ranges more (and_second (range_fits len range) (list_all (range_fits len) ranges) h))

-- where a range ends whose start is a usize
pub end_within : (ranges : List (ℕ × ℕ)) (i : ℕ) (range : ℕ × ℕ) → list_all (range_fits (2 ^ 64 - 1)) ranges ≡ true → i < length ranges → range ≡ get_or ranges i (0, 0) → range.0 < 2 ^ 64 → range.0 + range.1 < 2 ^ 64
end_within ranges i range fit h is small =
    let here : range_fits (2 ^ 64 - 1) range ≡ true = rw is (all_at (range_fits (2 ^ 64 - 1)) ranges i (0, 0) fit h) in
    grind (arith, nat_tests)

range_below : (len start count : ℕ) → start + count ≤ len → list_all (λ i. nat_lt i len) (range_with_len start count) ≡ true
range_below len start zero h = refl
range_below len start (suc count) h = and_true (nat_lt start len) (list_all (λ i. nat_lt i len) (range_with_len (start + 1) count)) (lt-ltb start len (omega arith)) (range_below len (start + 1) count (omega arith))

each_below : (len : ℕ) (range : ℕ × ℕ) → range_fits len range ≡ true → list_all (λ i. nat_lt i len) (range_with_len range.0 range.1) ≡ true
each_below len (start, zero) h = refl
each_below len (start, suc count) h = range_below len start (suc count) (let fits : range_fits len (start, suc count) ≡ true = h in grind (arith, nat_tests))

-- the positions in ranges that lie among the items are there
pub ranges_below : (len : ℕ) (ranges : List (ℕ × ℕ)) → list_all (range_fits len) ranges ≡ true → list_all (λ i. nat_lt i len) (range_positions ranges) ≡ true
ranges_below len [] h = refl
ranges_below len (range ∷ ranges) h =
    let here = each_below len range (and_first (range_fits len range) (list_all (range_fits len) ranges) h) in
    let others = ranges_below len ranges (and_second (range_fits len range) (list_all (range_fits len) ranges) h) in
    list_all-append (λ i. nat_lt i len) (range_with_len range.0 range.1) (range_positions ranges)
    ∙ and_true (list_all (λ i. nat_lt i len) (range_with_len range.0 range.1)) (list_all (λ i. nat_lt i len) (range_positions ranges)) here others

between_at : (items : List (Option ℤ)) (start count : ℕ) → start + count ≤ length items → map (λ i. get_or items i None) (range_with_len start count) ≡ take count (drop start items)
between_at items start zero h = refl
between_at items start (suc count) h = rw (drop_more items start None (omega arith)) (ap (λ rest. get_or items start None ∷ rest) (between_at items (start + 1) count (omega arith)))

each_between : (items : List (Option ℤ)) (range : ℕ × ℕ) → range_fits (length items) range ≡ true → map (λ i. get_or items i None) (range_with_len range.0 range.1) ≡ between range.0 (range.0 + range.1) items
each_between items (start, zero) h = let none : start + 0 - start ≡ 0 = omega arith in rw none refl
each_between items (start, suc count) h =
    let fits : start + suc count ≤ length items = grind (arith, nat_tests) in
    let many : start + suc count - start ≡ suc count = omega arith in
    rw many (between_at items start (suc count) fits)

-- the items at the positions in ranges are the ranges' items
pub ranges_at : (ranges : List (ℕ × ℕ)) (c : Column) → list_all (range_fits (length c.items)) ranges ≡ true → at_positions (range_positions ranges) c ≡ ranges_of ranges c
ranges_at ranges c fit = ap (λ (items : List (Option ℤ)). record { dtype = c.dtype; items = items }) (each ranges fit)
  where
    each : (ranges : List (ℕ × ℕ)) → list_all (range_fits (length c.items)) ranges ≡ true → map (λ i. get_or c.items i None) (range_positions ranges) ≡ flat_map (λ range. between range.0 (range.0 + range.1) c.items) ranges
    each [] h = refl
    each (range ∷ ranges) h =
        map-append (λ i. get_or c.items i None) (range_with_len range.0 range.1) (range_positions ranges)
        ∙ (λ j. each_between c.items range (and_first (range_fits (length c.items) range) (list_all (range_fits (length c.items)) ranges) h) j ++ each ranges (and_second (range_fits (length c.items) range) (list_all (range_fits (length c.items)) ranges) h) j)

-- the positions of one more range
pub ranges_more : (ranges : List (ℕ × ℕ)) (i : ℕ) (range : ℕ × ℕ) (old new : List ℕ) → new ≡ old ++ range_with_len range.0 range.1 → old ≡ range_positions (take i ranges) → range ≡ get_or ranges i (0, 0) → i < length ranges → new ≡ range_positions (take (i + 1) ranges)
ranges_more ranges i range old new added before is within =
    rw (added, before, take_more ranges i (0, 0) within, ← is) (flat_map_more (λ r. range_with_len r.0 r.1) [] (take i ranges) range)

-- ---- lists of positions that grow
from_more : (start count : ℕ) → range_with_len start (count + 1) ≡ range_with_len start count ++ (start + count) ∷ []
from_more start zero = let here : start + 0 ≡ start = omega arith in rw here refl
from_more start (suc count) =
    let step : suc count + 1 ≡ suc (count + 1) = omega arith in
    let place : start + suc count ≡ start + 1 + count = omega arith in
    rw (step, place) (ap (λ rest. start ∷ rest) (from_more (start + 1) count))

-- one more position from a start on
pub pushed_more : (before old new : List ℕ) (start k x : ℕ) → new ≡ old ++ x ∷ [] → old ≡ before ++ range_with_len start k → x ≡ start + k → new ≡ before ++ range_with_len start (k + 1)
pushed_more before old new start k x added so_far is = rw (added, so_far, is, from_more start k) (append_assoc before (range_with_len start k) ((start + k) ∷ []))
