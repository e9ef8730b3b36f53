-- Copies of one item.
use Rattle.std.proofs.Common.{◌≡◌, ℕ, ℤ, zero, suc, ◌<◌, ◌≤◌, ◌+◌, Bool, true, false, List, [], ◌∷◌, length, replicate, Option, Some, None, nat_lt, map, sum_by, option_and_then, cond, IsTrue, ◌-◌, ◌^◌, ◌||◌, IfNone, Ok, is_some, option_map, unsigned_abs, refl, ap, ◌∙◌, sym, arith}
use Rattle.std.specs.List.{list_all, flat_map}
use Rattle.std.proofs.lemmas.List.{get_or-replicate, length-replicate, replicate-append-replicate}
use Rattle.std.proofs.lemmas.List.Sums.{sum_by-cons}
use Rattle.fl_types.specs.Bits.{between, true_count}
use Rattle.fl_column.specs.Operations.{filter_of, kept, range_fits, ranges_column, take_column, item_named, total_of}
use Rattle.fl_types.specs.Masks.{mask_bits, mask_len}
use Rattle.fl_types.specs.Types.{can_be_null, either_nullable, integer_type, is_integer, nullability_in, with_nullability}
use Rattle.fl_types.specs.declared.dtype.DType.TheVariants.{Primitive}
use Rattle.fl_types.specs.declared.dtype.DType.TheVariants as dtypes
use Rattle.fl_types.specs.declared.dtype.Nullability.{Nullability}
use Rattle.fl_types.specs.declared.dtype.Nullability.TheVariants.{NonNullable, Nullable}
use Rattle.fl_types.specs.declared.validity.Validity.{Validity}
use Rattle.fl_types.specs.declared.validity.Validity.TheVariants as valid
use Rattle.fl_column.specs.Columns.{Column, ConstantParts, column_of_constant}
use Rattle.fl_types.specs.Validities.{items_of, nullability_of}
use Rattle.fl_types.specs.declared.dtype.DType.{DType}
use Rattle.fl_types.specs.declared.dtype.PType.{PType}
use Rattle.fl_types.specs.declared.mask.Mask.{Mask}
use Rattle.fl_column.proofs.CastLaws.{some_if}
use Rattle.fl_column.specs.Selections.{is_below_length, items_at, positions_in}
use Rattle.fl_column.proofs.ItemLaws.{between_constant}
use Rattle.fl_column.proofs.ListLaws.{and_first, and_second}
use Rattle.fl_column.proofs.SelectionLaws.{range_within, ok_positions, taken_below, taken_named}
use Rattle.fl_types.proofs.MaskLaws.{length-mask_bits}
use Rattle.std.proofs.lemmas.Bool.Decides.{Decides-int_eq, Decides-ltb, nat_tests}
use Rattle.std.proofs.lemmas.Int.{ints}
use Rattle.fl_column.specs.Queries.{are_constant, are_sorted, are_strictly_sorted, is_below, same_item}
use Rattle.fl_column.proofs.QueryLaws.{constant_from_first}

same_as_itself : (x : Option ℤ) → same_item x x ≡ true
same_as_itself None = refl
same_as_itself (Some z) = (Decides-int_eq z z).1 refl

not_below_itself : (x : Option ℤ) → is_below x x ≡ false
not_below_itself None = refl
not_below_itself (Some z) = grind (arith, ints)

pub constant_is_constant : (x : Option ℤ) (n : ℕ) → are_constant (replicate n x) ≡ true
constant_is_constant x n = constant_from_first (replicate n x) (λ i h.
    let within : i < n = omega (arith, length-replicate n x) in
    let some : 0 < n = omega arith in
    rw (get_or-replicate n 0 x None some, get_or-replicate n i x None within) (same_as_itself x))

pub constant_sorted : (x : Option ℤ) (n : ℕ) → are_sorted (replicate n x) ≡ true
constant_sorted x zero = refl
constant_sorted x (suc zero) = refl
constant_sorted x (suc (suc n)) = rw (not_below_itself x) (constant_sorted x (suc n))

not_less : (n : ℕ) → 2 ≤ n → nat_lt n 2 ≡ false
not_less n h = grind (arith, nat_tests)

pub constant_strict : (x : Option ℤ) (n : ℕ) → are_strictly_sorted (replicate n x) ≡ nat_lt n 2
constant_strict x zero = refl
constant_strict x (suc zero) = refl
constant_strict x (suc (suc n)) = rw (not_below_itself x) (sym (not_less (suc (suc n)) (omega arith)))

part_of_constant : (x : Option ℤ) (n start count : ℕ) → IsTrue (range_fits n (start, count)) → between start (start + count) (replicate n x) ≡ replicate count x
part_of_constant x n start zero fits = let none : start + 0 - start ≡ 0 = omega arith in rw none refl
part_of_constant x n start (suc count) fits =
    let reach = range_within n start (suc count) count fits (omega arith) in
    let some : start + suc count - start ≡ suc count = omega arith in
    between_constant x n start (start + suc count) (omega arith) (omega arith) ∙ ap (λ k. replicate k x) some

-- ranges of copies are copies
pub ranges_of_constant : (x : Option ℤ) (n : ℕ) (ranges : List (ℕ × ℕ)) → list_all (range_fits n) ranges ≡ true → flat_map (λ range. between range.0 (range.0 + range.1) (replicate n x)) ranges ≡ replicate (sum_by (λ range. range.1) ranges) x
ranges_of_constant x n [] fits = refl
ranges_of_constant x n (range ∷ ranges) fits =
    let rest = ranges_of_constant x n ranges (and_second (range_fits n range) (list_all (range_fits n) ranges) fits) in
    let first = part_of_constant x n range.0 range.1 (and_first (range_fits n range) (list_all (range_fits n) ranges) fits) in
    rw (first, rest, sum_by-cons) (replicate-append-replicate range.1 (sum_by (λ range. range.1) ranges) x)

-- what a mask keeps of copies is copies
pub kept_constant : (x : Option ℤ) (bits : List Bool) (n : ℕ) → length bits ≡ n → kept bits (replicate n x) ≡ replicate (true_count bits) x
kept_constant x [] n e = refl
kept_constant x (b ∷ bits) zero e = absurd (omega arith)
kept_constant x (true ∷ bits) (suc n) e = let more : true_count (true ∷ bits) ≡ 1 + true_count bits = sum_by-cons (λ bit. cond bit 1 0) true bits in let step : 1 + true_count bits ≡ suc (true_count bits) = omega arith in rw (more, step) (ap (λ xs. x ∷ xs) (kept_constant x bits n (omega arith)))
kept_constant x (false ∷ bits) (suc n) e = let same : true_count (false ∷ bits) ≡ 0 + true_count bits = sum_by-cons (λ bit. cond bit 1 0) false bits in let step : 0 + true_count bits ≡ true_count bits = omega arith in rw (same, step) (kept_constant x bits n (omega arith))

-- the same item wherever a position is
pub spread_constant : (x : Option ℤ) (n : ℕ) (positions : List (Option ℕ)) → list_all (is_below_length n) positions ≡ true → items_at (replicate n x) positions ≡ map (option_and_then (λ i. x)) positions
spread_constant x n [] h = refl
spread_constant x n (None ∷ positions) h = ap (λ xs. None ∷ xs) (spread_constant x n positions h)
spread_constant x n (Some i ∷ positions) h =
    let below : i < n = (Decides-ltb i n).0 (and_first (nat_lt i n) (list_all (is_below_length n) positions) h) in
    rw (get_or-replicate n i x None below) (ap (λ xs. x ∷ xs) (spread_constant x n positions (and_second (nat_lt i n) (list_all (is_below_length n) positions) h)))

integer_dtype : (dtype : DType) (ptype : PType) → integer_type dtype ≡ Some ptype → is_integer dtype ≡ true
integer_dtype dtype ptype e = rw e refl

-- ranges of copies, their refusals, and what a mask keeps
pub constant_ranges : (c : ConstantParts) (ptype : PType) (ranges : List (ℕ × ℕ)) (total : ℕ) → integer_type c.scalar.dtype ≡ Some ptype → list_all (range_fits c.len) ranges ≡ true → Some total ≡ total_of ranges
    → ranges_column ranges (column_of_constant c) ≡ Ok (column_of_constant (record { scalar = c.scalar; len = total }))
constant_ranges c ptype ranges total e fits is =
    let sum = sum_by (λ range. range.1) ranges in
    let small = some_if (nat_lt sum (2 ^ 64)) total sum is in
    rw (length-replicate, integer_dtype c.scalar.dtype ptype e, fits, small.0, ranges_of_constant c.scalar.value c.len ranges fits, small.1) refl

pub constant_filter : (c : ConstantParts) (mask : Mask) → mask_len mask ≡ c.len → filter_of mask (column_of_constant c) ≡ column_of_constant (record { scalar = c.scalar; len = true_count (mask_bits mask) })
constant_filter c mask e = rw (kept_constant c.scalar.value (mask_bits mask) c.len (length-mask_bits mask ∙ e)) refl

all_present : (z : ℤ) (ys : List ℤ) → list_all is_some (map (option_and_then (λ i. Some z)) (map (option_map unsigned_abs) (map (λ y. Some y) ys))) ≡ true
all_present z [] = refl
all_present z (y ∷ ys) = all_present z ys

-- a take of copies has no null where neither they nor the indices may have one
pub spread_stands : (n dn : Nullability) (w : Validity) (x : Option ℤ) (ys : List ℤ) → n ≡ either_nullable dn (nullability_of w) → (x ≡ None → dn ≡ Nullable)
    → IsTrue (can_be_null n || list_all is_some (map (option_and_then (λ i. x)) (map (option_map unsigned_abs) (items_of w ys))))
spread_stands n Nullable w x ys e null = rw e refl
spread_stands n NonNullable valid.AllValid x ys e null = rw e refl
spread_stands n NonNullable valid.AllInvalid x ys e null = rw e refl
spread_stands n NonNullable (valid.Array bits) x ys e null = rw e refl
spread_stands n NonNullable valid.NonNullable (Some z) ys e null = rw e (all_present z ys)
spread_stands n NonNullable valid.NonNullable None ys e null = cc (null refl)

typed_so : (dtype : DType) (ptype : PType) (n : Nullability) → integer_type dtype ≡ Some ptype → with_nullability n dtype ≡ Primitive ptype n
typed_so (dtypes.Primitive other old) ptype n e = let same : other ≡ ptype = cc in rw same refl
typed_so (dtypes.Bool old) ptype n e = cc

-- a take of copies
pub constant_take : (c : ConstantParts) (d : Column) (ptype : PType) (n : Nullability) (positions : List (Option ℕ)) → integer_type c.scalar.dtype ≡ Some ptype → is_integer d.dtype ≡ true → n ≡ either_nullable (nullability_in c.scalar.dtype) (nullability_in d.dtype)
    → positions_in c.len d.items ≡ Ok positions → take_column d (column_of_constant c) ≡ Ok (record { dtype = Primitive ptype n; items = map (option_and_then (λ i. c.scalar.value)) positions })
constant_take c d ptype n positions e f is ok =
    let both = ok_positions c.len d.items positions ok in
    let below = taken_below c.len d.items both.0 in
    let named : map (item_named (replicate c.len c.scalar.value)) d.items ≡ map (option_and_then (λ i. c.scalar.value)) positions =
    sym (taken_named (replicate c.len c.scalar.value) d.items) ∙ (spread_constant c.scalar.value c.len (map (option_map unsigned_abs) d.items) below ∙ ap (map (option_and_then (λ i. c.scalar.value))) both.1) in
    rw (length-replicate, integer_dtype c.scalar.dtype ptype e, f, both.0, named, ← is) (ap (λ t. Ok (record { dtype = t; items = map (option_and_then (λ i. c.scalar.value)) positions })) (typed_so c.scalar.dtype ptype n e))

pub null_case : {X : Type 0} (f : X → ℤ) (r : Option X) (v : Option ℤ) (P : Type 0) → option_map f r ≡ v → IfNone r P → v ≡ None → P
null_case f None v P e p n = p
null_case f (Some x) v P e p n = cc
