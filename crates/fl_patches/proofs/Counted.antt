-- How many exceptions a histogram counts.
use Rattle.std.proofs.Common.{◌≡◌, ◌≢◌, ℕ, ℤ, zero, suc, ◌+◌, ◌-◌, ◌*◌, ◌<◌, ◌≤◌, ◌==◌, cond, List, [], ◌∷◌, ◌++◌, length, map, replicate, drop, sum, Option, Some, None, refl, ap, sym, ◌∙◌, arith, inl, inr}
use Rattle.std.proofs.lemmas.Bool.{cases_eq, cases_lt, eq-eqb, ne_eqb}
use Rattle.std.proofs.lemmas.List.{drop-map, length-map, map-append, append-nil}
use Rattle.std.proofs.lemmas.List.Sums.{sum_by-cons}
use Rattle.std.specs.List.{range_with_len}
use Rattle.fl_types.specs.declared.dtype.PType.{PType}
use Rattle.fl_types.specs.Bits.{between}
use Rattle.fl_types.specs.Integers.{bits_of_type}
use Rattle.fl_types.specs.Validities.{items_of}
use Rattle.fl_column.specs.Columns.{PrimitiveParts}
use Rattle.fl_patches.specs.PatchMaps.{places_from, values_in}
use Rattle.fl_patches.proofs.Sparse.{places_even, values-append}
use Rattle.fl_patches.specs.Costs.{block_histogram, count_above, padded_block}
use Rattle.fl_patches.specs.Exceptions.{bits_of_item, count_with_bits, exception, exceptions_of, histogram_of, one_width}
use Rattle.fl_patches.specs.PatchParts.{exception_patches, patch_count, patches_with}
use Rattle.fl_types.specs.declared.dtype.Nullability.{Nullability}
use Rattle.fl_patches.proofs.BitCounts.{bits_of_item_most}
use Rattle.fl_patches.proofs.Blocks.{exceptions_between, length-exceptions}
use Rattle.fl_patches.proofs.Gathers.{exception_few, exception_many, exception_null}
use Rattle.fl_patches.proofs.Histograms.{between_all, count_cons, count_with_bits_none}

-- ---- sums over a range
-- f a + .. + f (a + n - 1)
abbrev pub range_sum : (ℕ → ℕ) → ℕ → ℕ → ℕ
range_sum f a n = sum (map f (range_with_len a n))

sum-cons : (x : ℕ) (xs : List ℕ) → sum (x ∷ xs) ≡ x + sum xs
sum-cons x xs = sum_by-cons (λ (y : ℕ). y) x xs

sum_zero : (f : ℕ → ℕ) (a n : ℕ) → ((k : ℕ) → a ≤ k → k < a + n → f k ≡ 0) → range_sum f a n ≡ 0
sum_zero f a zero none = refl
sum_zero f a (suc n) none = sum-cons (f a) (map f (range_with_len (a + 1) n)) ∙ (rw (none a (omega arith) (omega arith), sum_zero f (a + 1) n (λ k h l. none k (omega arith) (omega arith))) refl)

sum_plus : (f g h : ℕ → ℕ) (a n : ℕ) → ((k : ℕ) → h k ≡ f k + g k) → range_sum h a n ≡ range_sum f a n + range_sum g a n
sum_plus f g h a zero both = refl
sum_plus f g h a (suc n) both =
    let rest = sum_plus f g h (a + 1) n both in
    let here = both a in
    let left = sum-cons (h a) (map h (range_with_len (a + 1) n)) in
    let first = sum-cons (f a) (map f (range_with_len (a + 1) n)) in
    let second = sum-cons (g a) (map g (range_with_len (a + 1) n)) in
    omega arith

-- 1 at b, else 0
abbrev hit : ℕ → ℕ → ℕ
hit b k = cond (b == k) 1 0

hit_at : (b k : ℕ) → b ≡ k → hit b k ≡ 1
hit_at b k e = rw (eq-eqb b k e) refl

hit_not : (b k : ℕ) → b ≢ k → hit b k ≡ 0
hit_not b k e = rw (ne_eqb b k e) refl

sum_miss : (b a n : ℕ) → b < a → range_sum (hit b) a n ≡ 0
sum_miss b a n below = sum_zero (hit b) a n (λ k h l. hit_not b k (λ e. omega arith))

sum_hit : (b a n : ℕ) → a ≤ b → b < a + n → range_sum (hit b) a n ≡ 1
sum_hit b a zero low high = absurd (omega arith)
sum_hit b a (suc n) low high = sum-cons (hit b a) (map (hit b) (range_with_len (a + 1) n)) ∙ (elim (cases_eq b a) [
  | inl same ↦ (rw (hit_at b a same, sum_miss b (a + 1) n (omega arith)) refl)
  | inr other ↦ (rw (hit_not b a other, sum_hit b (a + 1) n (omega arith) (omega arith)) refl)
])

drop_range : (d a n : ℕ) → drop d (range_with_len a n) ≡ range_with_len (a + d) (n - d)
drop_range zero a n = let here : a + 0 ≡ a = omega arith in let all : n - 0 ≡ n = omega arith in rw (here, all) refl
drop_range (suc d) a zero = let none : 0 - suc d ≡ 0 = omega arith in rw none refl
drop_range (suc d) a (suc n) =
    let here : a + suc d ≡ a + 1 + d = omega arith in
    let less : suc n - suc d ≡ n - d = omega arith in
    rw (here, less) (drop_range d (a + 1) n)

-- ---- the items above a width
above_sum : (t : PType) (w : ℕ) (items : List (Option ℤ)) → count_above w (histogram_of t items) ≡ range_sum (count_with_bits t items) (w + 1) (bits_of_type t + 1 - (w + 1))
above_sum t w items =
    let start : 0 + (w + 1) ≡ w + 1 = omega arith in
    ap sum (drop-map (count_with_bits t items) (w + 1) (range_with_len 0 (bits_of_type t + 1)) ∙ ap (map (count_with_bits t items)) (drop_range (w + 1) 0 (bits_of_type t + 1) ∙ ap (λ m. range_with_len m (bits_of_type t + 1 - (w + 1))) start))

one_more : (t : PType) (w : ℕ) (item : Option ℤ) (items : List (Option ℤ)) → length (values_in (map (exception t w) (item ∷ items))) ≡ range_sum (hit (bits_of_item t item)) (w + 1) (bits_of_type t + 1 - (w + 1)) + length (values_in (map (exception t w) items))
one_more t w None items =
    let none : exception t w None ≡ None = exception_null t w None refl in
    let miss = sum_miss 0 (w + 1) (bits_of_type t + 1 - (w + 1)) (omega arith) in
    rw (none, miss) (omega arith)
one_more t w (Some z) items = elim (cases_lt w (bits_of_item t (Some z))) [
  | inl many ↦
      (let there : exception t w (Some z) ≡ Some z = exception_many t w (Some z) many in
      let most = bits_of_item_most t (Some z) in
      let one = sum_hit (bits_of_item t (Some z)) (w + 1) (bits_of_type t + 1 - (w + 1)) (omega arith) (omega arith) in
      rw (there, one) (omega arith))
  | inr few ↦
      (let gone : exception t w (Some z) ≡ None = exception_few t w (Some z) few in
      let miss = sum_miss (bits_of_item t (Some z)) (w + 1) (bits_of_type t + 1 - (w + 1)) (omega arith) in
      rw (gone, miss) (omega arith))
]

counts_sum : (t : PType) (w : ℕ) (items : List (Option ℤ)) → range_sum (count_with_bits t items) (w + 1) (bits_of_type t + 1 - (w + 1)) ≡ length (values_in (map (exception t w) items))
counts_sum t w [] = sum_zero (count_with_bits t []) (w + 1) (bits_of_type t + 1 - (w + 1)) (λ k h l. count_with_bits_none t k)
counts_sum t w (item ∷ items) =
    let n = bits_of_type t + 1 - (w + 1) in
    sum_plus (hit (bits_of_item t item)) (count_with_bits t items) (count_with_bits t (item ∷ items)) (w + 1) n (λ k. count_cons t item items k)
    ∙ (ap (λ m. range_sum (hit (bits_of_item t item)) (w + 1) n + m) (counts_sum t w items) ∙ sym (one_more t w item items))

-- a histogram has as many items above a width as there are exceptions
pub above_counts : (t : PType) (w : ℕ) (items : List (Option ℤ)) → count_above w (histogram_of t items) ≡ length (values_in (map (exception t w) items))
above_counts t w items = above_sum t w items ∙ counts_sum t w items

nulls_none : (t : PType) (w n : ℕ) → values_in (map (exception t w) (replicate n None)) ≡ []
nulls_none t w zero = refl
nulls_none t w (suc n) = let none : exception t w None ≡ None = exception_null t w None refl in rw none (nulls_none t w n)

-- of a block
pub above_block : (t : PType) (w : ℕ) (items : List (Option ℤ)) (j : ℕ) → count_above w (block_histogram t items j) ≡ length (values_in (map (exception t w) (between (1024 * j) (1024 * (j + 1)) items)))
unfolding block_histogram
above_block t w items j =
    let block : List (Option ℤ) = between (1024 * j) (1024 * (j + 1)) items in
    above_counts t w (padded_block items j)
    ∙ ap (λ (xs : List ℤ). length xs) (ap values_in (map-append (exception t w) block (replicate (1024 - length block) None)) ∙ (values-append (map (exception t w) block) (map (exception t w) (replicate (1024 - length block) None)) ∙ (ap (λ ys. values_in (map (exception t w) block) ++ ys) (nulls_none t w (1024 - length block)) ∙ append-nil (values_in (map (exception t w) block)))))

-- ---- all items
each_once : (t : PType) (items : List (Option ℤ)) → range_sum (count_with_bits t items) 0 (bits_of_type t + 1) ≡ length items
each_once t [] = sum_zero (count_with_bits t []) 0 (bits_of_type t + 1) (λ k h l. count_with_bits_none t k)
each_once t (item ∷ items) =
    let most = bits_of_item_most t item in
    let one = sum_hit (bits_of_item t item) 0 (bits_of_type t + 1) (omega arith) (omega arith) in
    sum_plus (hit (bits_of_item t item)) (count_with_bits t items) (count_with_bits t (item ∷ items)) 0 (bits_of_type t + 1) (λ k. count_cons t item items k) ∙ (rw (one, each_once t items) (omega arith))

pub sum_histogram : (t : PType) (items : List (Option ℤ)) → sum (histogram_of t items) ≡ length items
sum_histogram t items = each_once t items

-- ---- patches
-- there are as many patches as places
pub count_patches : (index_type : PType) (len : ℕ) (t : PType) (nullability : Nullability) (places : List ℕ) (values : List ℤ) → patch_count (patches_with index_type len t nullability places values) ≡ length places
count_patches index_type len t nullability [] values = refl
count_patches index_type len t nullability (place ∷ places) values = length-map (place ∷ places) _

pub patches_counted : (index_type : PType) (width_at : ℕ → ℕ) (p : PrimitiveParts) → patch_count (exception_patches index_type width_at p) ≡ length (values_in (exceptions_of p.ptype width_at (items_of p.validity p.slots)))
patches_counted index_type width_at p =
    let all : List (Option ℤ) = exceptions_of p.ptype width_at (items_of p.validity p.slots) in
    count_patches index_type (length p.slots) p.ptype _ (places_from 0 all) (values_in all) ∙ sym (places_even 0 all)

-- at one width
pub exceptions_all : (t : PType) (w : ℕ) (items : List (Option ℤ)) → exceptions_of t (one_width w) items ≡ map (exception t w) items
exceptions_all t w items =
    let all : List (Option ℤ) = exceptions_of t (one_width w) items in
    let part = exceptions_between t (one_width w) w items 0 (length items) (λ i h l. refl) in
    sym (between_all all (length items) (sym (length-exceptions t (one_width w) items))) ∙ (part ∙ ap (map (exception t w)) (between_all items (length items) refl))

pub global_counted : (index_type : PType) (w : ℕ) (p : PrimitiveParts) → patch_count (exception_patches index_type (one_width w) p) ≡ count_above w (histogram_of p.ptype (items_of p.validity p.slots))
global_counted index_type w p =
    let items : List (Option ℤ) = items_of p.validity p.slots in
    patches_counted index_type (one_width w) p ∙ (ap (λ xs. length (values_in xs)) (exceptions_all p.ptype w items) ∙ sym (above_counts p.ptype w items))

-- no more values than items
pub values_few : {A : Type 0} (xs : List (Option A)) → length (values_in xs) ≤ length xs
values_few [] = omega arith
values_few (None ∷ xs) = let rest = values_few xs in omega arith
values_few (Some x ∷ xs) = let rest = values_few xs in omega arith

-- no more items above a width than items
pub few_above : (t : PType) (w : ℕ) (items : List (Option ℤ)) → count_above w (histogram_of t items) ≤ length items
few_above t w items = omega (arith, above_counts t w items, values_few (map (exception t w) items), length-map items (exception t w))
