-- Best widths, block by block, and what they cost together.
use Rattle.std.proofs.Common.{◌≡◌, ℕ, ℤ, zero, suc, ◌+◌, ◌-◌, ◌*◌, ◌<◌, ◌≤◌, true, List, [], ◌∷◌, ◌++◌, length, map, take, drop, get_or, set, min, Option, nat_le, IsTrue, refl, ap, sym, subst, ◌∙◌, arith, inl, inr, zero-add}
use Rattle.std.proofs.lemmas.Bool.{and_from, cases_lt, le-leb, leb-true}
use Rattle.std.proofs.lemmas.List.{length-append, length-drop, length-take, length-map, take_all}
use Rattle.std.proofs.lemmas.List.FromFn.{get_or-map-range_with_len, length-map-range_with_len, map-range_with_len_more}
use Rattle.std.proofs.lemmas.List.Sums.{sum_by-cons}
use Rattle.std.specs.List.{list_all, range_with_len, sum_by}
use Rattle.fl_types.specs.declared.dtype.PType.{PType}
use Rattle.fl_types.specs.declared.validity.Validity.{Validity}
use Rattle.fl_types.specs.Bits.{between}
use Rattle.fl_types.specs.Integers.{bits_of_type}
use Rattle.fl_types.specs.Validities.{covers, items_of}
use Rattle.fl_column.proofs.ListLaws.{all_at}
use Rattle.fl_column.specs.Chunks.{chunk_count}
use Rattle.fl_patches.specs.PatchMaps.{values_in}
use Rattle.fl_patches.proofs.Sparse.{values-append}
use Rattle.std.specs.List.{list_any}
use Rattle.std.proofs.Common.{Err, IfOk, Ok, cond}
use Rattle.std.specs.Prelude.{Result}
use Rattle.std.proofs.lemmas.Bool.{cases_Bool}
use Rattle.fl_types.specs.Refusals.{Answers}
use Rattle.fl_types.specs.declared.error.FastLanesError.{FastLanesError}
use Rattle.fl_types.specs.declared.error.FastLanesError.TheVariants.{NegativeValue}
use Rattle.fl_patches.proofs.Parts.{ok_same}
use Rattle.fl_column.specs.Columns.{PrimitiveParts}
use Rattle.fl_patches.specs.Costs.{ChosenWidths, CostLeast, choose_widths, chosen_widths, best_width, best_widths, block_histogram, cost_of, cost_of_widths, count_above, first_widths}
use Rattle.fl_patches.specs.Exceptions.{exception, exception_count, exceptions_of, histogram_of, is_negative, width_of_block}
use Rattle.fl_patches.proofs.Blocks.{exceptions_between, length-exceptions, take_between}
use Rattle.fl_patches.proofs.Counted.{above_block, values_few}
use Rattle.fl_patches.proofs.Gathers.{block_of_place, covered_values}
use Rattle.fl_patches.proofs.Histograms.{histogram_nulls, length-histogram}
use Rattle.fl_patches.proofs.LeastCosts.{IsFirstLeast, best_is, first_least_keeps, first_least_one, first_least_takes}

-- ---- the histogram of a block
between_to_block : {A : Type 0} (xs : List A) (j size : ℕ) → 1024 * j < length xs → size ≡ min (length xs - 1024 * j) 1024 → between (1024 * j) (1024 * j + size) xs ≡ between (1024 * j) (1024 * (j + 1)) xs
between_to_block xs j size begun sized =
    let this : 1024 * j + size - 1024 * j ≡ size = omega arith in
    let that : 1024 * (j + 1) - 1024 * j ≡ 1024 = omega arith in
    rw (this, that) (elim (cases_lt (length (drop (1024 * j) xs)) 1024) [
      | inl short ↦ (let long = length-drop (1024 * j) xs in take_all size (drop (1024 * j) xs) (omega arith) ∙ sym (take_all 1024 (drop (1024 * j) xs) (omega arith)))
      | inr whole ↦ (let long = length-drop (1024 * j) xs in let full : size ≡ 1024 = omega arith in ap (λ n. take n (drop (1024 * j) xs)) full)
    ])

length_block : {A : Type 0} (xs : List A) (j size : ℕ) → 1024 * j < length xs → size ≡ min (length xs - 1024 * j) 1024 → length (between (1024 * j) (1024 * (j + 1)) xs) ≡ size
length_block xs j size begun sized = omega (arith, length-take (1024 * (j + 1) - 1024 * j) (drop (1024 * j) xs), length-drop (1024 * j) xs)

-- a block's items and the nulls behind them
pub block_counted : {X : Type 0} (t : PType) (value : X → ℤ) (v : Validity) (xs : List X) (j start end had : ℕ) (entries : List ℕ) → IsTrue (covers v (length xs)) → 1024 * j < length xs → start ≡ 1024 * j → end ≡ min (1024 * (j + 1)) (length xs)
    → entries ≡ histogram_of t (between start end (items_of v (map value xs))) → had ≡ get_or entries 0 0 → set entries 0 (had + (1024 - (end - start))) ≡ block_histogram t (items_of v (map value xs)) j
unfolding block_histogram
block_counted t value v xs j start end had entries covered begun start_is end_is is was =
    let items : List (Option ℤ) = items_of v (map value xs) in
    let size = end - start in
    let count : length items ≡ length xs = covered_values value v xs covered in
    let sized : size ≡ min (length items - 1024 * j) 1024 = omega arith in
    let ends : end ≡ 1024 * j + size = omega arith in
    let block = between (1024 * j) (1024 * (j + 1)) items in
    let part : between start end items ≡ between (1024 * j) (1024 * j + size) items = ap (λ from. between from end items) start_is ∙ ap (λ to. between (1024 * j) to items) ends in
    let so : entries ≡ histogram_of t block = is ∙ ap (histogram_of t) (part ∙ between_to_block items j size (omega arith) sized) in
    let rest : 1024 - size ≡ 1024 - length block = ap (λ n. 1024 - n) (sym (length_block items j size (omega arith) sized)) in
    rw rest (histogram_nulls t block entries (1024 - length block) had so was)

pub length-block_histogram : (t : PType) (items : List (Option ℤ)) (j : ℕ) → length (block_histogram t items j) ≡ bits_of_type t + 1
unfolding block_histogram
length-block_histogram t items j = length-histogram t _

-- few exceptions in a block
pub above_few : (t : PType) (w : ℕ) (items : List (Option ℤ)) (j : ℕ) (entries : List ℕ) → entries ≡ block_histogram t items j → count_above w entries ≤ 1024
above_few t w items j entries is =
    let block : List (Option ℤ) = between (1024 * j) (1024 * (j + 1)) items in
    let some : length (values_in (map (exception t w) block)) ≤ length (map (exception t w) block) = values_few (map (exception t w) block) in
    rw is (omega (arith, above_block t w items j, length-map block (exception t w), length-take (1024 * (j + 1) - 1024 * j) (drop (1024 * j) items)))

-- ---- the widths
pub widths_none : (t : PType) (items : List (Option ℤ)) → [] ≡ first_widths t items 0
unfolding first_widths
widths_none t items = refl

pub widths_more : (t : PType) (items : List (Option ℤ)) (block w : ℕ) (widths widths' : List ℕ) → w ≡ best_width t (block_histogram t items block) → widths' ≡ widths ++ w ∷ [] → widths ≡ first_widths t items block → widths' ≡ first_widths t items (block + 1)
unfolding first_widths
widths_more t items block w widths widths' best added so =
    rw (added, so, best) (sym (map-range_with_len_more (λ j. best_width t (block_histogram t items j)) 0 block block (zero-add block)))

pub length-widths : (t : PType) (items : List (Option ℤ)) (n : ℕ) → length (first_widths t items n) ≡ n
unfolding first_widths
length-widths t items n = length-map-range_with_len (λ j. best_width t (block_histogram t items j)) 0 n

pub width_at_block : (t : PType) (items : List (Option ℤ)) (n j : ℕ) → j < n → get_or (first_widths t items n) j 0 ≡ best_width t (block_histogram t items j)
unfolding first_widths
width_at_block t items n j h = get_or-map-range_with_len (λ k. best_width t (block_histogram t items k)) 0 n j j 0 h (zero-add j)

-- ---- their exceptions
-- the exceptions of the first blocks at the best widths
unfoldable pub exceptions_to : PType → List (Option ℤ) → ℕ → ℕ
exceptions_to t items block = length (values_in (take (1024 * block) (exceptions_of t (width_of_block (best_widths t items)) items)))

pub exceptions_none : (t : PType) (items : List (Option ℤ)) → 0 ≡ exceptions_to t items 0
unfolding exceptions_to
exceptions_none t items = refl

pub exceptions_more : (t : PType) (items : List (Option ℤ)) (block w count more : ℕ) → 1024 * block < length items → w ≡ best_width t (block_histogram t items block) → more ≡ count_above w (block_histogram t items block) → count ≡ exceptions_to t items block → count + more ≡ exceptions_to t items (block + 1)
unfolding exceptions_to
exceptions_more t items block w count more begun best above so =
    let widths : List ℕ = best_widths t items in
    let all : List (Option ℤ) = exceptions_of t (width_of_block widths) items in
    let start = 1024 * block in
    let end = 1024 * (block + 1) in
    let here : w ≡ get_or widths block 0 = best ∙ sym (width_at_block t items (chunk_count (length items)) block (omega arith)) in
    let part : between start end all ≡ map (exception t w) (between start end items) = exceptions_between t (width_of_block widths) w items start end (λ i low high. block_of_place widths block w i here low high) in
    let joined : take end all ≡ take start all ++ map (exception t w) (between start end items) = take_between all start end (omega arith) ∙ ap (λ ys. take start all ++ ys) part in
    let counted : more ≡ length (values_in (map (exception t w) (between start end items))) = above ∙ above_block t w items block in
    rw (joined, values-append) (omega (arith, length-append (values_in (take start all)) (values_in (map (exception t w) (between start end items)))))

pub exceptions_few : (t : PType) (items : List (Option ℤ)) (block : ℕ) → exceptions_to t items block ≤ length items
unfolding exceptions_to
exceptions_few t items block =
    let all : List (Option ℤ) = exceptions_of t (width_of_block (best_widths t items)) items in
    omega (arith, values_few (take (1024 * block) all), length-take (1024 * block) all, length-exceptions t (width_of_block (best_widths t items)) items)

exceptions_all : (t : PType) (items : List (Option ℤ)) (block : ℕ) → length items ≤ 1024 * block → exceptions_to t items block ≡ length (values_in (exceptions_of t (width_of_block (best_widths t items)) items))
unfolding exceptions_to
exceptions_all t items block room =
    let all : List (Option ℤ) = exceptions_of t (width_of_block (best_widths t items)) items in
    ap (λ xs. length (values_in xs)) (take_all (1024 * block) all (omega (arith, length-exceptions t (width_of_block (best_widths t items)) items)))

-- ---- no widths cost less
least_exists : (f : ℕ → ℕ) (n : ℕ) → (b : ℕ) × IsFirstLeast f (n + 1) b
least_exists f zero = (0, first_least_one f)
least_exists f (suc n) =
    let before = least_exists f n in
    let step : n + 1 ≡ suc n = omega arith in
    let best : IsFirstLeast f (suc n) before.0 = subst (λ m. IsFirstLeast f m before.0) step before.1 in
    elim (cases_lt (f (suc n)) (f before.0)) [
      | inl less ↦ (suc n, first_least_takes f (suc n) before.0 best less)
      | inr more ↦ (before.0, first_least_keeps f (suc n) before.0 best more)
    ]

-- the best width is one of the histogram's
pub best_within : (t : PType) (entries : List ℕ) → 0 < length entries → best_width t entries < length entries
best_within t entries some =
    let found = least_exists (cost_of t entries) (length entries - 1) in
    let all : length entries - 1 + 1 ≡ length entries = omega arith in
    let best : IsFirstLeast (cost_of t entries) (length entries) found.0 = subst (λ m. IsFirstLeast (cost_of t entries) m found.0) all found.1 in
    rw (best_is t entries found.0 best) best.within

pub best_fits : (t : PType) (items : List (Option ℤ)) → best_width t (histogram_of t items) ≤ bits_of_type t
best_fits t items =
    let long = length-histogram t items in
    let within = best_within t (histogram_of t items) (omega arith) in
    omega arith

-- every best width is one of the type's
widths_in_range : (t : PType) (width : ℕ → ℕ) (a n : ℕ) → ((j : ℕ) → width j ≤ bits_of_type t) → list_all (λ w. nat_le w (bits_of_type t)) (map width (range_with_len a n)) ≡ true
widths_in_range t width a zero fit = refl
widths_in_range t width a (suc n) fit = and_from _ _ (le-leb _ _ (fit a)) (widths_in_range t width (a + 1) n fit)

block_fits : (t : PType) (items : List (Option ℤ)) (j : ℕ) → best_width t (block_histogram t items j) ≤ bits_of_type t
unfolding block_histogram
block_fits t items j = best_fits t _

pub widths_fit : (t : PType) (items : List (Option ℤ)) (n : ℕ) → list_all (λ w. nat_le w (bits_of_type t)) (first_widths t items n) ≡ true
unfolding first_widths
widths_fit t items n = widths_in_range t (λ j. best_width t (block_histogram t items j)) 0 n (λ j. block_fits t items j)

pub best_least : (t : PType) (entries : List ℕ) (other : ℕ) → other < length entries → cost_of t entries (best_width t entries) ≤ cost_of t entries other
best_least t entries other h =
    let found = least_exists (cost_of t entries) (length entries - 1) in
    let all : length entries - 1 + 1 ≡ length entries = omega arith in
    let best : IsFirstLeast (cost_of t entries) (length entries) found.0 = subst (λ m. IsFirstLeast (cost_of t entries) m found.0) all found.1 in
    rw (best_is t entries found.0 best) (best.least other h)

sums_le : (f g : ℕ → ℕ) (a n : ℕ) → ((j : ℕ) → a ≤ j → j < a + n → f j ≤ g j) → sum_by f (range_with_len a n) ≤ sum_by g (range_with_len a n)
sums_le f g a zero each = omega arith
sums_le f g a (suc n) each =
    let here = each a (omega arith) (omega arith) in
    let rest = sums_le f g (a + 1) n (λ j h l. each j (omega arith) (omega arith)) in
    omega (arith, sum_by-cons f a (range_with_len (a + 1) n), sum_by-cons g a (range_with_len (a + 1) n))

pub widths_cost_least : (t : PType) (items : List (Option ℤ)) → CostLeast t items (best_widths t items)
unfolding cost_of_widths
widths_cost_least t items others as_many within =
    let n = chunk_count (length items) in
    let best : List ℕ = best_widths t items in
    let long : length best ≡ n = length-widths t items n in
    sums_le (λ j. cost_of t (block_histogram t items j) (get_or best j 0)) (λ j. cost_of t (block_histogram t items j) (get_or others j 0)) 0 n (λ j h l.
    let width : get_or best j 0 ≡ best_width t (block_histogram t items j) = width_at_block t items n j (omega arith) in
    let fits : get_or others j 0 ≤ bits_of_type t = leb-true _ _ (all_at (λ width. nat_le width (bits_of_type t)) others j 0 within (omega arith)) in
    rw width (best_least t (block_histogram t items j) (get_or others j 0) (omega (arith, length-block_histogram t items j))))

-- ---- the answer
pub chosen_after : (t : PType) (items : List (Option ℤ)) (block : ℕ) (widths : List ℕ) (total : ℕ) → block ≡ chunk_count (length items) → widths ≡ first_widths t items block → total ≡ exceptions_to t items block
    → record { widths = widths; exceptions = total } ≡ chosen_widths t items
chosen_after t items block widths total last best counted =
    let all : widths ≡ best_widths t items = best ∙ ap (first_widths t items) last in
    let sum : total ≡ exception_count t (width_of_block (best_widths t items)) items = counted ∙ exceptions_all t items block (omega arith) in
    rw (all, sum) refl

-- the widths, or that a negative item has none
abbrev widths_or_refusal : PType → List (Option ℤ) → Result ChosenWidths FastLanesError
widths_or_refusal t items = cond (list_any is_negative items) (Err NegativeValue) (Ok (chosen_widths t items))

-- what is chosen, where no item is negative
chosen_are : (p : PrimitiveParts) (made : ChosenWidths) → choose_widths p ≡ Ok made → made ≡ chosen_widths p.ptype (items_of p.validity p.slots)
chosen_are p made e = elim (cases_Bool (list_any is_negative (items_of p.validity p.slots))) [
  | inl negative ↦ absurd (let refused : choose_widths p ≡ Err NegativeValue = rw negative refl in cc)
  | inr others ↦ (let all : choose_widths p ≡ Ok (chosen_widths p.ptype (items_of p.validity p.slots)) = rw others refl in ok_same _ _ (sym all ∙ e))
]

-- the model's answer, by the items of a slice
answer_of : (p : PrimitiveParts) (t : PType) (w : Validity) (zs : List ℤ) → p.ptype ≡ t → w ≡ p.validity → zs ≡ p.slots → choose_widths p ≡ widths_or_refusal t (items_of w zs)
answer_of p t w zs typed valid same = rw (typed, valid, same) refl

-- the widths of an answer are of the type
pub chosen_fit : {X : Type 0} (view : X → ChosenWidths) (r : Result X FastLanesError) (p : PrimitiveParts) (t : PType) (w : Validity) (zs : List ℤ) → p.ptype ≡ t → w ≡ p.validity → zs ≡ p.slots → Answers view r (widths_or_refusal t (items_of w zs))
    → IfOk r (λ x. IsTrue (list_all (λ width. nat_le width (bits_of_type p.ptype)) (view x).widths))
chosen_fit view (Ok x) p t w zs typed valid same e = rw (chosen_are p (view x) (answer_of p t w zs typed valid same ∙ e)) (widths_fit p.ptype (items_of p.validity p.slots) (chunk_count (length (items_of p.validity p.slots))))
chosen_fit view (Err e) p t w zs typed valid same h = tt

-- they cost least
pub chosen_least : {X : Type 0} (view : X → ChosenWidths) (r : Result X FastLanesError) (p : PrimitiveParts) (t : PType) (w : Validity) (zs : List ℤ) → p.ptype ≡ t → w ≡ p.validity → zs ≡ p.slots → Answers view r (widths_or_refusal t (items_of w zs))
    → IfOk r (λ x. CostLeast p.ptype (items_of p.validity p.slots) (view x).widths)
chosen_least view (Ok x) p t w zs typed valid same e = rw (chosen_are p (view x) (answer_of p t w zs typed valid same ∙ e)) (widths_cost_least p.ptype (items_of p.validity p.slots))
chosen_least view (Err e) p t w zs typed valid same h = tt
