-- Laws of what is asked of a column.
use Rattle.std.proofs.Common.{◌≡◌, ℕ, ℤ, zero, suc, ◌+◌, ◌-◌, ◌≤◌, ◌++◌, List, [], ◌∷◌, length, map, get_or, take, drop, Bool, true, false, cond, Option, Some, None, ◌⊎◌, inl, inr, refl, ap, sym, ◌∙◌, arith}
use Rattle.std.specs.Prelude.{◌+ℤ◌, ◌≤ℤ◌, ◌&&◌, All, Contains, count_by, filter, filter_map, fold, option_map}
use Rattle.std.specs.Int.{int_max, int_min}
use Rattle.std.specs.List.{reduce}
use Rattle.std.proofs.lemmas.Int.{fold-int_max_bounds, fold-int_max_reached, fold-int_min_bounds, fold-int_min_reached}
use Rattle.std.proofs.lemmas.List.{length-drop, take-append-drop, take_all}
use Rattle.std.proofs.lemmas.List.Elements.{filter_map-append}
use Rattle.std.proofs.lemmas.List.Sums.{sum_by-append, sum_by-cons}
use Rattle.fl_types.specs.declared.mask.Mask.{Mask}
use Rattle.fl_types.specs.declared.mask.Mask.TheVariants.{Values}
use Rattle.fl_types.specs.Bits.{kept, true_count}
use Rattle.fl_types.specs.Masks.{mask_bits, mask_len}
use Rattle.fl_types.specs.Values.{bool_number}
use Rattle.fl_column.specs.Columns.{Column}
use Rattle.fl_column.specs.Operations.{filter_of, slice_of}
use Rattle.fl_column.specs.Queries.{tested}
use Rattle.fl_scan.specs.Counts.{count_below}
use Rattle.fl_scan.specs.Selections.{is_passed, passed_under}
use Rattle.fl_scan.specs.TotalLaws.{total-append}
use Rattle.fl_scan.specs.Totals.{count_of, filtered_by, greatest_item, is_true, least_item, sum_of, total, valid_items}
use Rattle.fl_scan.proofs.CountedColumns.{first_below}
use Rattle.fl_scan.proofs.MarkLaws.{mask_long}

-- ---- answers
number_true : (b : Bool) → is_true (Some (bool_number b)) ≡ b
number_true true = refl
number_true false = refl

counted : (test : ℤ → Bool) (items : List (Option ℤ)) → count_by test (filter_map (λ o. o) items) ≡ count_by is_true (map (option_map (λ z. bool_number (test z))) items)
counted test [] = refl
counted test (None ∷ items) =
    let answers : List (Option ℤ) = map (option_map (λ z. bool_number (test z))) items in
    let more : count_by is_true (None ∷ answers) ≡ 0 + count_by is_true answers = sum_by-cons (λ o. cond (is_true o) 1 0) None answers in
    let same : count_by is_true answers ≡ count_by is_true (None ∷ answers) = omega arith in
    counted test items ∙ same
counted test (Some z ∷ items) =
    sum_by-cons (λ x. cond (test x) 1 0) z (filter_map (λ o. o) items)
    ∙ (ap (λ n. cond (test z) 1 0 + n) (counted test items)
    ∙ (ap (λ b. cond b 1 0 + count_by is_true (map (option_map (λ z. bool_number (test z))) items)) (sym (number_true (test z)))
    ∙ sym (sum_by-cons (λ o. cond (is_true o) 1 0) (Some (bool_number (test z))) (map (option_map (λ z. bool_number (test z))) items))))

pub counted_answers : (test : ℤ → Bool) (c : Column) → count_of test c ≡ count_by is_true (tested test c).items
counted_answers test c = counted test c.items

passed : (b : Bool) (z : ℤ) (xs : List ℤ) (ys : List (Option ℤ)) → map (λ x. Some x) xs ≡ ys → map (λ x. Some x) (cond b (z ∷ xs) xs) ≡ cond (is_true (Some (bool_number b))) (Some z ∷ ys) ys
passed true z xs ys e = ap (λ zs. Some z ∷ zs) e
passed false z xs ys e = e

kept_answers : (test : ℤ → Bool) (items : List (Option ℤ)) → map (λ z. Some z) (filter test (filter_map (λ o. o) items)) ≡ kept (map is_true (map (option_map (λ z. bool_number (test z))) items)) items
kept_answers test [] = refl
kept_answers test (None ∷ items) = kept_answers test items
kept_answers test (Some z ∷ items) = passed (test z) z (filter test (filter_map (λ o. o) items)) (kept (map is_true (map (option_map (λ z. bool_number (test z))) items)) items) (kept_answers test items)

pub filtered_answers : (test : ℤ → Bool) (c : Column) → filtered_by test c ≡ filter_of (Values (map is_true (tested test c).items)) c
filtered_answers test c = ap (λ items. record { dtype = c.dtype; items = items }) (kept_answers test c.items)

-- ---- slices
two_parts : (items : List (Option ℤ)) (middle : ℕ) → middle ≤ length items → filter_map (λ o. o) (take (middle - 0) (drop 0 items)) ++ filter_map (λ o. o) (take (length items - middle) (drop middle items)) ≡ filter_map (λ o. o) items
two_parts items middle h =
    let rest = length-drop middle items in
    let behind : take (length items - middle) (drop middle items) ≡ drop middle items = take_all (length items - middle) (drop middle items) (omega arith) in
    let front : middle - 0 ≡ middle = omega arith in
    ap (λ ys. filter_map (λ o. o) (take (middle - 0) items) ++ filter_map (λ o. o) ys) behind
    ∙ (ap (λ k. filter_map (λ o. o) (take k items) ++ filter_map (λ o. o) (drop middle items)) front
    ∙ (sym (filter_map-append (λ o. o) (take middle items) (drop middle items)) ∙ ap (filter_map (λ o. o)) (take-append-drop middle items)))

pub counts_of_slices : (middle : ℕ) (test : ℤ → Bool) (c : Column) → middle ≤ length c.items → count_of test (slice_of 0 middle c) + count_of test (slice_of middle (length c.items) c) ≡ count_of test c
counts_of_slices middle test c h = sym (sum_by-append (λ x. cond (test x) 1 0) (valid_items (slice_of 0 middle c)) (valid_items (slice_of middle (length c.items) c))) ∙ ap (count_by test) (two_parts c.items middle h)

pub sums_of_slices : (middle : ℕ) (c : Column) → middle ≤ length c.items → sum_of (slice_of 0 middle c) +ℤ sum_of (slice_of middle (length c.items) c) ≡ sum_of c
sums_of_slices middle c h = sym (total-append (valid_items (slice_of 0 middle c)) (valid_items (slice_of middle (length c.items) c))) ∙ ap total (two_parts c.items middle h)

-- ---- the least and the greatest
some_injective : (x z : ℤ) → Some x ≡ Some z → z ≡ x
some_injective x z e = cc

reached : (zs : List ℤ) (x z : ℤ) → (z ≡ x) ⊎ Contains zs z → Contains (x ∷ zs) z
reached zs x z (inl is) = (0, omega arith, sym is)
reached zs x z (inr within) = (suc within.0, (let h = within.1 in omega arith), within.2)

each_of : (P : ℤ → Type 0) (x : ℤ) (zs : List ℤ) → P x → All P zs → All P (x ∷ zs)
each_of P x zs first rest zero d h = first
each_of P x zs first rest (suc k) d h = rest k d (omega arith)

least : (zs : List ℤ) (z : ℤ) → reduce int_min zs ≡ Some z → Contains zs z × All (λ x. z ≤ℤ x) zs
least [] z e = cc
least (x ∷ zs) z e =
    let is : z ≡ fold int_min x zs = some_injective (fold int_min x zs) z e in
    let bounds = fold-int_min_bounds x zs z is in
    (reached zs x z (fold-int_min_reached x zs z is), each_of (λ y. z ≤ℤ y) x zs bounds.0 bounds.1)

greatest : (zs : List ℤ) (z : ℤ) → reduce int_max zs ≡ Some z → Contains zs z × All (λ x. x ≤ℤ z) zs
greatest [] z e = cc
greatest (x ∷ zs) z e =
    let is : z ≡ fold int_max x zs = some_injective (fold int_max x zs) z e in
    let bounds = fold-int_max_bounds x zs z is in
    (reached zs x z (fold-int_max_reached x zs z is), each_of (λ y. y ≤ℤ z) x zs bounds.0 bounds.1)

pub least_bounds : (c : Column) (z : ℤ) → least_item c ≡ Some z → Contains (valid_items c) z × All (λ x. z ≤ℤ x) (valid_items c)
least_bounds c z e = least (valid_items c) z e

pub greatest_bounds : (c : Column) (z : ℤ) → greatest_item c ≡ Some z → Contains (valid_items c) z × All (λ x. x ≤ℤ z) (valid_items c)
greatest_bounds c z e = greatest (valid_items c) z e

-- ---- masks
none_more : (n m k : ℕ) → n ≡ m → k ≡ 0 + m → n ≡ k
none_more n m k is more = omega arith

counted_kept : (test : ℤ → Bool) (bits : List Bool) (items : List (Option ℤ)) → length bits ≡ length items
    → count_by test (filter_map (λ o. o) (kept bits items)) ≡ count_below (λ i. get_or bits i false && is_passed test (get_or items i None)) (length items)
counted_kept test [] [] h = refl
counted_kept test [] (item ∷ items) h = absurd (omega arith)
counted_kept test (bit ∷ bits) [] h = absurd (omega arith)
counted_kept test (true ∷ bits) (Some z ∷ items) h =
    sum_by-cons (λ x. cond (test x) 1 0) z (filter_map (λ o. o) (kept bits items))
    ∙ (ap (λ n. cond (test z) 1 0 + n) (counted_kept test bits items (omega arith)) ∙ sym (first_below (λ i. get_or (true ∷ bits) i false && is_passed test (get_or (Some z ∷ items) i None)) (length items)))
counted_kept test (true ∷ bits) (None ∷ items) h =
    none_more (count_by test (filter_map (λ o. o) (kept bits items))) (count_below (λ i. get_or bits i false && is_passed test (get_or items i None)) (length items)) (count_below (λ i. get_or (true ∷ bits) i false && is_passed test (get_or (None ∷ items) i None)) (suc (length items)))
    (counted_kept test bits items (omega arith)) (first_below (λ i. get_or (true ∷ bits) i false && is_passed test (get_or (None ∷ items) i None)) (length items))
counted_kept test (false ∷ bits) (item ∷ items) h =
    none_more (count_by test (filter_map (λ o. o) (kept bits items))) (count_below (λ i. get_or bits i false && is_passed test (get_or items i None)) (length items)) (count_below (λ i. get_or (false ∷ bits) i false && is_passed test (get_or (item ∷ items) i None)) (suc (length items)))
    (counted_kept test bits items (omega arith)) (first_below (λ i. get_or (false ∷ bits) i false && is_passed test (get_or (item ∷ items) i None)) (length items))

pub counted_under : (mask : Mask) (test : ℤ → Bool) (c : Column) → mask_len mask ≡ length c.items → true_count (passed_under mask test c) ≡ count_of test (filter_of mask c)
counted_under mask test c long = sym (counted_kept test (mask_bits mask) c.items (mask_long mask ∙ long))
