-- The least, the greatest and the sum of a list with one integer more.
use Rattle.std.proofs.Common.{Option, ◌≡◌, ℕ, ℤ, pos, ◌+◌, ◌-◌, ◌<◌, ◌≤◌, ◌++◌, List, [], ◌∷◌, length, map, get_or, take, Bool, true, false, cond, None, Some, refl, ap, sym, ◌∙◌, arith, IsTrue, inl, inr, not}
use Rattle.std.specs.Prelude.{◌+ℤ◌, ◌==◌, ◌⊎◌, count_by, filter_map, fold, is_none, int_lt}
use Rattle.std.specs.Int.{int_max, int_min}
use Rattle.std.proofs.lemmas.Int.{ints}
use Rattle.std.proofs.lemmas.List.{get_or-map, length-map, take_all, take_more}
use Rattle.std.proofs.lemmas.List.Sums.{fold-append, fold_more, sum_by-cons}
use Rattle.fl_types.specs.declared.validity.Validity.{Validity}
use Rattle.fl_types.specs.declared.validity.Validity.TheVariants as valid
use Rattle.fl_types.specs.Bits.{kept, true_count}
use Rattle.fl_types.specs.Validities.{covers, items_of, masked}
use Rattle.fl_column.specs.Columns.{PrimitiveParts, column_of_primitive}
use Rattle.fl_column.proofs.ListLaws.{kept_no, kept_yes}
use Rattle.fl_column.proofs.QueryLaws.{next_fails, next_holds}
use Rattle.fl_column.specs.Queries.{are_sorted, is_below}
use Rattle.std.proofs.lemmas.Bool.{cases_lt}
use Rattle.fl_file.specs.Statistics.{extremes_among, extremes_with, null_count_of, total, valid_items}

-- an integer of a list of values
mapped_item : {X : Type 0} (value : X → ℤ) (xs : List X) (i : ℕ) (x : X) → i < length xs → x ≡ get_or xs i x → get_or (map value xs) i (pos 0) ≡ value x
mapped_item value xs i x h is = get_or-map value xs i x (pos 0) h ∙ ap value (sym is)

-- ---- one integer more
total_push : (zs : List ℤ) (z : ℤ) → total (zs ++ z ∷ []) ≡ total zs +ℤ z
total_push [] z = omega (arith, ints)
total_push (y ∷ zs) z = let rest = total_push zs z in omega (arith, ints)

extremes_push : (zs : List ℤ) (z : ℤ) → extremes_among (zs ++ z ∷ []) ≡ extremes_with (extremes_among zs) z
extremes_push [] z = refl
extremes_push (y ∷ zs) z = rw (fold-append int_min y zs (z ∷ []), fold-append int_max y zs (z ∷ [])) refl

pub total_more : {X : Type 0} (value : X → ℤ) (xs : List X) (i : ℕ) (x : X) → i < length xs → x ≡ get_or xs i x → total (take (i + 1) (map value xs)) ≡ total (take i (map value xs)) +ℤ value x
total_more value xs i x h is =
    let inside : i < length (map value xs) = let same = length-map xs value in omega arith in
    ap total (take_more (map value xs) i (pos 0) inside) ∙ total_push (take i (map value xs)) (get_or (map value xs) i (pos 0)) ∙ ap (λ z. total (take i (map value xs)) +ℤ z) (mapped_item value xs i x h is)

pub fold_next : {X : Type 0} (value : X → ℤ) (pick : ℤ → ℤ → ℤ) (xs : List X) (i : ℕ) (x : X) (start old new : ℤ) → i < length xs → x ≡ get_or xs i x → new ≡ pick old (value x) → old ≡ fold pick start (take i (map value xs))
    → new ≡ fold pick start (take (i + 1) (map value xs))
fold_next value pick xs i x start old new h is picks so_far =
    let inside : i < length (map value xs) = let same = length-map xs value in omega arith in
    picks ∙ ap (λ z. pick z (value x)) so_far ∙ ap (pick (fold pick start (take i (map value xs)))) (sym (mapped_item value xs i x h is)) ∙ sym (fold_more pick start (map value xs) i (pos 0) inside)

min_same : (v : ℤ) → int_min v v ≡ v
min_same v = grind (arith, ints)

max_same : (v : ℤ) → int_max v v ≡ v
max_same v = grind (arith, ints)

-- the first integer may count twice
pub extremes_made : {X : Type 0} (value : X → ℤ) (xs : List X) (x : X) → 0 < length xs → x ≡ get_or xs 0 x → Some (record { least = fold int_min (value x) (map value xs); greatest = fold int_max (value x) (map value xs) }) ≡ extremes_among (map value xs)
extremes_made value [] x some is = absurd (omega arith)
extremes_made value (y ∷ ys) x some is =
    ap (λ w. Some (record { least = fold int_min (value w) (map value (y ∷ ys)); greatest = fold int_max (value w) (map value (y ∷ ys)) })) is
    ∙ ap (λ z. Some (record { least = fold int_min z (map value ys); greatest = fold int_max (int_max (value y) (value y)) (map value ys) })) (min_same (value y))
    ∙ ap (λ z. Some (record { least = fold int_min (value y) (map value ys); greatest = fold int_max z (map value ys) })) (max_same (value y))

-- ---- integers under a mask
pub total_kept : {X : Type 0} (value : X → ℤ) (bits : List Bool) (xs : List X) (i : ℕ) (x : X) → length bits ≡ length xs → i < length xs → x ≡ get_or xs i x → get_or bits i false ≡ true
    → total (kept (take (i + 1) bits) (take (i + 1) (map value xs))) ≡ total (kept (take i bits) (take i (map value xs))) +ℤ value x
total_kept value bits xs i x same h is on =
    let inside : i < length (map value xs) = let long = length-map xs value in omega arith in
    ap total (kept_yes bits (map value xs) i (pos 0) (omega arith) inside on) ∙ total_push (kept (take i bits) (take i (map value xs))) (get_or (map value xs) i (pos 0)) ∙ ap (λ z. total (kept (take i bits) (take i (map value xs))) +ℤ z) (mapped_item value xs i x h is)

pub extremes_kept : {X : Type 0} (value : X → ℤ) (bits : List Bool) (xs : List X) (i : ℕ) (x : X) → length bits ≡ length xs → i < length xs → x ≡ get_or xs i x → get_or bits i false ≡ true
    → extremes_among (kept (take (i + 1) bits) (take (i + 1) (map value xs))) ≡ extremes_with (extremes_among (kept (take i bits) (take i (map value xs)))) (value x)
extremes_kept value bits xs i x same h is on =
    let inside : i < length (map value xs) = let long = length-map xs value in omega arith in
    ap extremes_among (kept_yes bits (map value xs) i (pos 0) (omega arith) inside on) ∙ extremes_push (kept (take i bits) (take i (map value xs))) (get_or (map value xs) i (pos 0)) ∙ ap (extremes_with (extremes_among (kept (take i bits) (take i (map value xs))))) (mapped_item value xs i x h is)

pub not_kept : {X : Type 0} (value : X → ℤ) (bits : List Bool) (xs : List X) (i : ℕ) → length bits ≡ length xs → i < length xs → get_or bits i false ≡ false → kept (take (i + 1) bits) (take (i + 1) (map value xs)) ≡ kept (take i bits) (take i (map value xs))
not_kept value bits xs i same h off =
    let inside : i < length (map value xs) = let long = length-map xs value in omega arith in
    kept_no bits (map value xs) i (omega arith) inside off

pub whole_kept : {X : Type 0} (value : X → ℤ) (bits : List Bool) (xs : List X) (i : ℕ) → length bits ≡ length xs → length xs ≤ i → kept (take i bits) (take i (map value xs)) ≡ kept bits (map value xs)
whole_kept value bits xs i same end = let long = length-map xs value in rw (take_all i bits (omega arith), take_all i (map value xs) (omega arith)) refl

-- ---- valid items
valid_all : (zs : List ℤ) → filter_map (λ o. o) (map (λ z. Some z) zs) ≡ zs
valid_all [] = refl
valid_all (z ∷ zs) = ap (λ ys. z ∷ ys) (valid_all zs)

valid_none : (zs : List ℤ) → filter_map {Y = ℤ} (λ o. o) (map (λ z. None) zs) ≡ []
valid_none [] = refl
valid_none (z ∷ zs) = valid_none zs

valid_masked : (bits : List Bool) (zs : List ℤ) → filter_map (λ o. o) (masked bits zs) ≡ kept bits zs
valid_masked [] zs = refl
valid_masked (bit ∷ bits) [] = refl
valid_masked (true ∷ bits) (z ∷ zs) = ap (λ ys. z ∷ ys) (valid_masked bits zs)
valid_masked (false ∷ bits) (z ∷ zs) = valid_masked bits zs

-- the valid items of integers under a validity
abbrev pub valid_of : Validity → List ℤ → List ℤ
valid_of valid.NonNullable zs = zs
valid_of valid.AllValid zs = zs
valid_of valid.AllInvalid zs = []
valid_of (valid.Array bits) zs = kept bits zs

valid_items_are : (v : Validity) (zs : List ℤ) → filter_map (λ o. o) (items_of v zs) ≡ valid_of v zs
valid_items_are valid.NonNullable zs = valid_all zs
valid_items_are valid.AllValid zs = valid_all zs
valid_items_are valid.AllInvalid zs = valid_none zs
valid_items_are (valid.Array bits) zs = valid_masked bits zs

-- ---- nulls
abbrev pub nulls_of : Validity → List ℤ → ℕ
nulls_of valid.NonNullable zs = 0
nulls_of valid.AllValid zs = 0
nulls_of valid.AllInvalid zs = length zs
nulls_of (valid.Array bits) zs = length zs - true_count bits

null_all : (zs : List ℤ) → count_by is_none (map (λ z. Some z) zs) ≡ 0
null_all [] = refl
null_all (z ∷ zs) = sum_by-cons (λ o. cond (is_none o) 1 0) (Some z) (map (λ z. Some z) zs) ∙ ap (λ n. 0 + n) (null_all zs)

null_none : (zs : List ℤ) → count_by is_none (items_of valid.AllInvalid zs) ≡ length zs
null_none [] = refl
null_none (z ∷ zs) = let rest = null_none zs in let first = sum_by-cons (λ o. cond (is_none o) 1 0) None (items_of valid.AllInvalid zs) in omega arith

null_masked : (bits : List Bool) (zs : List ℤ) → length bits ≡ length zs → (count_by is_none (masked bits zs) ≡ length zs - true_count bits) × (true_count bits ≤ length zs)
null_masked [] [] h = (refl, omega arith)
null_masked [] (z ∷ zs) h = absurd (omega arith)
null_masked (bit ∷ bits) [] h = absurd (omega arith)
null_masked (true ∷ bits) (z ∷ zs) h =
    let rest = null_masked bits zs (omega arith) in
    let first = sum_by-cons (λ o. cond (is_none o) 1 0) (Some z) (masked bits zs) in
    let one = sum_by-cons (λ b. cond b 1 0) true bits in
    (omega arith, omega arith)
null_masked (false ∷ bits) (z ∷ zs) h =
    let rest = null_masked bits zs (omega arith) in
    let first = sum_by-cons (λ o. cond (is_none o) 1 0) None (masked bits zs) in
    let one = sum_by-cons (λ b. cond b 1 0) false bits in
    (omega arith, omega arith)

covered : (bits : List Bool) (n : ℕ) → (length bits == n) ≡ true → length bits ≡ n
covered bits n h = grind arith

nulls_are : (v : Validity) (zs : List ℤ) → IsTrue (covers v (length zs)) → count_by is_none (items_of v zs) ≡ nulls_of v zs
nulls_are valid.NonNullable zs h = null_all zs
nulls_are valid.AllValid zs h = null_all zs
nulls_are valid.AllInvalid zs h = null_none zs
nulls_are (valid.Array bits) zs h = (null_masked bits zs (covered bits (length zs) h)).0

-- ---- plain arrays
pub nulls_in : (p : PrimitiveParts) (v shown : Validity) → v ≡ p.validity → v ≡ shown → IsTrue (covers p.validity (length p.slots)) → nulls_of shown p.slots ≡ null_count_of (column_of_primitive p)
nulls_in p v shown is shows covered = ap (λ u. nulls_of u p.slots) (sym shows ∙ is) ∙ sym (nulls_are p.validity p.slots covered)

pub valid_in : (p : PrimitiveParts) (v shown : Validity) (zs : List ℤ) → v ≡ p.validity → v ≡ shown → zs ≡ p.slots → valid_of shown zs ≡ valid_items (column_of_primitive p)
valid_in p v shown zs is shows slots = ap (λ u. valid_of u zs) (sym shows ∙ is) ∙ ap (valid_of p.validity) slots ∙ sym (valid_items_are p.validity p.slots)

-- no item is null
abbrev pub IsFull : Validity → Type 0
IsFull v = (v ≡ valid.NonNullable) ⊎ (v ≡ valid.AllValid)

pub no_nulls_in : (p : PrimitiveParts) (v : Validity) → v ≡ p.validity → IsFull v → IsTrue (covers p.validity (length p.slots)) → 0 ≡ null_count_of (column_of_primitive p)
no_nulls_in p v is (inl shows) covered = nulls_in p v valid.NonNullable is shows covered
no_nulls_in p v is (inr shows) covered = nulls_in p v valid.AllValid is shows covered

pub all_valid_in : (p : PrimitiveParts) (v : Validity) (zs : List ℤ) → v ≡ p.validity → IsFull v → zs ≡ p.slots → zs ≡ valid_items (column_of_primitive p)
all_valid_in p v zs is (inl shows) slots = valid_in p v valid.NonNullable zs is shows slots
all_valid_in p v zs is (inr shows) slots = valid_in p v valid.AllValid zs is shows slots

-- ---- order
-- an integer of a list without nulls
pub shown_at : {X : Type 0} (value : X → ℤ) (xs : List X) (i : ℕ) (x : X) → i < length xs → x ≡ get_or xs i x → get_or (map (λ z. Some z) (map value xs)) i None ≡ Some (value x)
shown_at value xs i x h is =
    let long = length-map xs value in
    get_or-map (λ z. Some z) (map value xs) i (value x) None (omega arith) ∙ ap (λ z. Some z) (get_or-map value xs i x (value x) h ∙ ap value (sym is))

-- the integers up to here rise
abbrev pub RiseTo : ℕ → List (Option ℤ) → Type 0
RiseTo i items = (k : ℕ) → k + 1 < i → not (is_below (get_or items (k + 1) None) (get_or items k None)) ≡ true

pub rises_on : {X : Type 0} (value : X → ℤ) (xs : List X) (i : ℕ) (x before : X) → 1 ≤ i → i < length xs → x ≡ get_or xs i x → before ≡ get_or xs (i - 1) before → int_lt (value x) (value before) ≡ false → RiseTo i (map (λ z. Some z) (map value xs))
    → RiseTo (i + 1) (map (λ z. Some z) (map value xs))
rises_on value xs i x before some h is was up so_far k lt = elim (cases_lt (k + 1) i) [
  | inl earlier ↦ so_far k earlier
  | inr here ↦
      (let same : k + 1 ≡ i = omega arith in
      let one : k ≡ i - 1 = omega arith in
      rw (same, one, shown_at value xs i x h is, shown_at value xs (i - 1) before (omega arith) was, up) refl)
]

pub falls_here : {X : Type 0} (value : X → ℤ) (xs : List X) (i : ℕ) (x before : X) → 1 ≤ i → i < length xs → x ≡ get_or xs i x → before ≡ get_or xs (i - 1) before → int_lt (value x) (value before) ≡ true → are_sorted (map (λ z. Some z) (map value xs)) ≡ false
falls_here value xs i x before some h is was down =
    let items = map (λ z. Some z) (map value xs) in
    let long : length items ≡ length xs = length-map (map value xs) (λ z. Some z) ∙ length-map xs value in
    let next : i - 1 + 1 ≡ i = omega arith in
    let wrong : not (is_below (get_or items (i - 1 + 1) None) (get_or items (i - 1) None)) ≡ false = rw (next, shown_at value xs i x h is, shown_at value xs (i - 1) before (omega arith) was, down) refl in
    next_fails (λ a b. not (is_below b a)) items (i - 1) None (omega arith) wrong

pub all_rise : {X : Type 0} (value : X → ℤ) (xs : List X) (i : ℕ) → length xs ≤ i → RiseTo i (map (λ z. Some z) (map value xs)) → are_sorted (map (λ z. Some z) (map value xs)) ≡ true
all_rise value xs i end so_far =
    let items = map (λ z. Some z) (map value xs) in
    let long : length items ≡ length xs = length-map (map value xs) (λ z. Some z) ∙ length-map xs value in
    next_holds (λ a b. not (is_below b a)) items None (λ k lt. so_far k (omega arith))

pub full_items : (p : PrimitiveParts) (v : Validity) → v ≡ p.validity → IsFull v → are_sorted (map (λ z. Some z) p.slots) ≡ are_sorted (column_of_primitive p).items
full_items p v is (inl shows) = ap (λ u. are_sorted (items_of u p.slots)) (sym shows ∙ is)
full_items p v is (inr shows) = ap (λ u. are_sorted (items_of u p.slots)) (sym shows ∙ is)
