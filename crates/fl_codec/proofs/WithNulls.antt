-- Loops over the items of a word of validity.
use Rattle.std.proofs.Common.{◌≡◌, ℕ, ℤ, pos, zero, suc, ◌+◌, ◌-◌, ◌<◌, ◌≤◌, ◌==◌, ◌⊎◌, inl, inr, Bool, true, false, cond, IsTrue, List, [], ◌∷◌, ◌++◌, length, map, take, drop, get_or, Option, Some, None, option_map, refl, ap, sym, subst, ◌∙◌, arith, lit<, int_le, int_lt, find, length-take, length-drop, length-append}
use Rattle.std.specs.List.{list_all}
use Rattle.std.proofs.lemmas.Int.{ints}
use Rattle.std.proofs.lemmas.List.{append-nil, append_assoc, take_all, take_more, drop_more, take-append-drop, drop-drop, take-map, drop-map, length-map, get_or-map, get_or-take, get_or-drop, get_or_append_left, get_or-append_right}
use Rattle.std.proofs.Math.Seq.{take-add}
use Rattle.std.proofs.lemmas.List.Elements.{filter_map-append}
use Rattle.std.proofs.lemmas.List.FromFn.{fill_by_all}
use Rattle.std.proofs.lemmas.Nat.Bits.{bit_at_ones}
use Rattle.fl_types.specs.declared.validity.Validity.{Validity}
use Rattle.fl_types.specs.declared.validity.Validity.TheVariants as valid
use Rattle.fl_types.specs.Bits.{between, bit_of_word, tabulate}
use Rattle.fl_types.specs.Validities.{covers, is_valid_at, items_of}
use Rattle.fl_column.proofs.ItemLaws.{get_or-items_of}
use Rattle.fl_column.proofs.ListLaws.{and_first, and_second, and_true, list_all-append}
use Rattle.fl_codec.specs.FoRColumns.{least_valid, min_valid, valid_items}
use Rattle.fl_codec.proofs.FoRLaws.{IsLeast, all_above_less, find-least, int_le-refl, least_more, least_push}
use Rattle.fl_codec.proofs.ReferenceLaws.{length-items_read, table_more}
use Rattle.fl_codec.proofs.Tables.{get_or-between}

-- ---- words
-- all bits of the greatest word are set
pub every_bit : (j : ℕ) → j < 64 → bit_of_word 18446744073709551615 j ≡ true
unfolding bit_of_word
every_bit j h = ap (λ b. b == 1) (bit_at_ones 64 j h)

-- every item is valid under these validities
pub full_valid : (v : Validity) (i : ℕ) → (v ≡ valid.NonNullable) ⊎ (v ≡ valid.AllValid) → is_valid_at v i ≡ true
full_valid v i (inl e) = rw e refl
full_valid v i (inr e) = rw e refl

-- an item that is read by its bit in a word
pub word_item : {X : Type 0} (value : X → ℤ) (v : Validity) (xs : List X) (word from to j : ℕ) → IsTrue (covers v (length xs)) → to ≤ length xs → j < to - from → bit_of_word word j ≡ is_valid_at v (from + j)
    → cond (bit_of_word word j) (Some (get_or (map value (take (to - from) (drop from xs))) j (pos 0))) None ≡ get_or (items_of v (map value xs)) (from + j) None
word_item value v xs word from to j covered range h bit =
    let place : from + j < length xs = omega arith in
    let all = length-map xs value in
    let part : map value (take (to - from) (drop from xs)) ≡ take (to - from) (drop from (map value xs)) = simp (take-map, drop-map) in
    let read : get_or (map value (take (to - from) (drop from xs))) j (pos 0) ≡ get_or (map value xs) (from + j) (pos 0) =
    ap (λ ys. get_or ys j (pos 0)) part ∙ (get_or-take (to - from) (drop from (map value xs)) j (pos 0) h ∙ get_or-drop from (map value xs) j (pos 0)) in
    ap (λ b. cond b (Some (get_or (map value (take (to - from) (drop from xs))) j (pos 0))) None) bit
    ∙ (ap (λ z. cond (is_valid_at v (from + j)) (Some z) None) read ∙ sym (get_or-items_of v (map value xs) (from + j) (pos 0) (rw all covered) (rw all place)))

-- the items of a word
pub word_items : {X : Type 0} (value : X → ℤ) (turn : ℤ → ℤ) (v : Validity) (xs : List X) (word from to : ℕ) → IsTrue (covers v (length xs)) → from ≤ to → to ≤ length xs → ((j : ℕ) → j < to - from → bit_of_word word j ≡ is_valid_at v (from + j))
    → tabulate (λ j. option_map turn (cond (bit_of_word word j) (Some (get_or (map value (take (to - from) (drop from xs))) j (pos 0))) None)) (length (take (to - from) (drop from xs))) ≡ between from to (map (option_map turn) (items_of v (map value xs)))
word_items value turn v xs word from to covered order range bits =
    let items = items_of v (map value xs) in
    let slot : ℕ → Option ℤ = λ j. option_map turn (cond (bit_of_word word j) (Some (get_or (map value (take (to - from) (drop from xs))) j (pos 0))) None) in
    let each : length items ≡ length xs = length-items_read value v xs covered in
    let turned_all = length-map items (option_map turn) in
    let rest = length-drop from xs in
    let size : length (take (to - from) (drop from xs)) ≡ to - from = let taken = length-take (to - from) (drop from xs) in omega arith in
    let rest_too = length-drop from (map (option_map turn) items) in
    let size_too : length (between from to (map (option_map turn) items)) ≡ to - from = let taken = length-take (to - from) (drop from (map (option_map turn) items)) in omega arith in
    ap (tabulate slot) size
    ∙ sym (fill_by_all slot (between from to (map (option_map turn) items)) (to - from) None size_too
    (λ k h.
    let place : from + k < length items = omega arith in
    get_or-between (map (option_map turn) items) from to k None h
    ∙ (get_or-map (option_map turn) items (from + k) None None place ∙ ap (option_map turn) (sym (word_item value v xs word from to k covered range h (bits k h))))))

-- ---- the least
-- the least integer of each list is what is found
abbrev fold_least : Option ℤ → List ℤ → Option ℤ
fold_least best [] = best
fold_least best (z ∷ zs) = fold_least (min_valid best (Some z)) zs

fold_is : (best : Option ℤ) (ys zs : List ℤ) → IsLeast best ys → IsLeast (fold_least best zs) (ys ++ zs)
fold_is best ys [] h = rw append-nil h
fold_is best ys (z ∷ zs) h = subst (λ l. IsLeast (fold_least (min_valid best (Some z)) zs) l) (append_assoc ys (z ∷ []) zs) (fold_is (min_valid best (Some z)) (ys ++ z ∷ []) zs (least_push best ys z h))

abbrev least_of_list : List ℤ → Option ℤ
least_of_list zs = find (λ z. list_all (int_le z) zs) zs

pub least_is : (zs : List ℤ) → IsLeast (least_of_list zs) zs
least_is zs =
    let h : IsLeast (fold_least None zs) zs = fold_is None [] zs refl in
    subst (λ best. IsLeast best zs) (sym (find-least (fold_least None zs) zs h)) h

-- an item more
pub pushed : (best item : Option ℤ) (xs : List (Option ℤ)) → best ≡ least_valid xs → min_valid best item ≡ least_valid (xs ++ item ∷ [])
pushed best item xs e =
    let h : IsLeast best (valid_items xs) = subst (λ b. IsLeast b (valid_items xs)) (sym e) (least_is (valid_items xs)) in
    sym (find-least (min_valid best item) (valid_items (xs ++ item ∷ [])) (least_more best xs item h))

-- where the least of a list and of what follows stands
place_of : (m least : ℤ) (xs ys : List ℤ) (i : ℕ) → i < length (m ∷ ys) → get_or (m ∷ ys) i least ≡ least → ((k : ℕ) × ((k < length xs) × (get_or xs k m ≡ m))) → (k : ℕ) × ((k < length (xs ++ ys)) × (get_or (xs ++ ys) k least ≡ least))
place_of m least xs ys zero h e at =
    let within = at.1.0 in
    let here : get_or xs at.0 least ≡ least = subst (λ x. get_or xs at.0 x ≡ x) e at.1.1 in
    (at.0, (rw length-append (omega arith), get_or_append_left xs ys least at.0 within ∙ here))
place_of m least xs ys (suc i) h e at =
    let back : length xs + i - length xs ≡ i = omega arith in
    (length xs + i, (rw length-append (omega arith), get_or-append_right xs ys (length xs) (length xs + i) least refl (omega arith) ∙ (ap (λ k. get_or ys k least) back ∙ e)))

join_some : (m least : ℤ) (xs ys : List ℤ) → IsLeast (Some m) xs → IsLeast (Some least) (m ∷ ys) → IsLeast (Some least) (xs ++ ys)
join_some m least xs ys first both = (
  place_of m least xs ys both.0.0 both.0.1.0 both.0.1.1 first.0,
  list_all-append (int_le least) xs ys
      ∙ and_true (list_all (int_le least) xs) (list_all (int_le least) ys) (all_above_less least m xs (and_first (int_le least m) (list_all (int_le least) ys) both.1) first.1) (and_second (int_le least m) (list_all (int_le least) ys) both.1),
)

join_found : (m : ℤ) (best : Option ℤ) (xs ys : List ℤ) → IsLeast (Some m) xs → IsLeast best (m ∷ ys) → best ≡ least_of_list (xs ++ ys)
join_found m None xs ys first both = cc
join_found m (Some least) xs ys first both = sym (find-least (Some least) (xs ++ ys) (join_some m least xs ys first both))

joined_by : (best : Option ℤ) (xs ys : List (Option ℤ)) → IsLeast best (valid_items xs) → least_valid (best ∷ ys) ≡ least_valid (xs ++ ys)
joined_by None xs ys none =
    let all : valid_items (xs ++ ys) ≡ valid_items ys = filter_map-append (λ (item : Option ℤ). item) xs ys ∙ ap (λ zs. zs ++ valid_items ys) none in
    ap least_of_list (sym all)
joined_by (Some m) xs ys first =
    let all = filter_map-append (λ (item : Option ℤ). item) xs ys in
    join_found m (least_of_list (m ∷ valid_items ys)) (valid_items xs) (valid_items ys) first (least_is (m ∷ valid_items ys)) ∙ ap least_of_list (sym all)

-- the least of a list is put in its place
pub joined : (best : Option ℤ) (xs ys : List (Option ℤ)) → best ≡ least_valid xs → least_valid (best ∷ ys) ≡ least_valid (xs ++ ys)
joined best xs ys e = joined_by best xs ys (subst (λ b. IsLeast b (valid_items xs)) (sym e) (least_is (valid_items xs)))

pub least_alone : (z : ℤ) → Some z ≡ least_valid (Some z ∷ [])
least_alone z = sym (find-least (Some z) (z ∷ []) ((0, (lit< tt, refl)), and_true (int_le z z) true (int_le-refl z) refl))

not_less : (x y : ℤ) → int_le x y ≡ true → int_lt y x ≡ false
not_less x y e = grind (arith, ints)

-- the seed is no less than the least
seed_kept : (seed least : ℤ) (xs : List (Option ℤ)) → Some least ≡ least_valid (Some seed ∷ xs) → min_valid (Some least) (Some seed) ≡ Some least
seed_kept seed least xs e =
    let h : IsLeast (Some least) (seed ∷ valid_items xs) = subst (λ b. IsLeast b (seed ∷ valid_items xs)) (sym e) (least_is (seed ∷ valid_items xs)) in
    let above : int_le least seed ≡ true = and_first (int_le least seed) (list_all (int_le least) (valid_items xs)) h.1 in
    ap (λ b. Some (cond b seed least)) (not_less least seed above)

-- one more item of a word
step_table : (slot : ℕ → Option ℤ) (seed : ℤ) (n : ℕ) (item : Option ℤ) → slot n ≡ item → least_valid ((Some seed ∷ tabulate slot n) ++ item ∷ []) ≡ least_valid (Some seed ∷ tabulate slot (n + 1))
step_table slot seed n item e = ap (λ xs. least_valid (Some seed ∷ xs)) (ap (λ o. tabulate slot n ++ o ∷ []) (sym e) ∙ sym (table_more slot n))

pub word_step : (turn : ℤ → ℤ) (slot : ℕ → Option ℤ) (seed least next item : ℤ) (bit : Bool) (n : ℕ) → slot n ≡ option_map turn (cond bit (Some item) None) → Some least ≡ least_valid (Some seed ∷ tabulate slot n) → Some next ≡ min_valid (Some least) (Some (cond bit (turn item) seed))
    → Some next ≡ least_valid (Some seed ∷ tabulate slot (n + 1))
word_step turn slot seed least next item true n here before lesser = lesser ∙ (pushed (Some least) (Some (turn item)) (Some seed ∷ tabulate slot n) before ∙ step_table slot seed n (Some (turn item)) here)
word_step turn slot seed least next item false n here before lesser = lesser ∙ (seed_kept seed least (tabulate slot n) before ∙ (pushed (Some least) None (Some seed ∷ tabulate slot n) before ∙ step_table slot seed n None here))

-- the same of equal items
pub least_of_same : {X : Type 0} (value : X → ℤ) (turn : ℤ → ℤ) (word : ℕ) (seed least : ℤ) (xs ys : List X) → xs ≡ ys → Some least ≡ least_valid (Some seed ∷ tabulate (λ j. option_map turn (cond (bit_of_word word j) (Some (get_or (map value xs) j (pos 0))) None)) (length xs))
    → Some least ≡ least_valid (Some seed ∷ tabulate (λ j. option_map turn (cond (bit_of_word word j) (Some (get_or (map value ys) j (pos 0))) None)) (length ys))
least_of_same {X = X} value turn word seed least xs ys e found = subst (λ (zs : List X). Some least ≡ least_valid (Some seed ∷ tabulate (λ j. option_map turn (cond (bit_of_word word j) (Some (get_or (map value zs) j (pos 0))) None)) (length zs))) e found

-- ---- the first valid item
twice_place : (x least : ℤ) (zs : List ℤ) (i : ℕ) → i < length (x ∷ x ∷ zs) → get_or (x ∷ x ∷ zs) i least ≡ least → (k : ℕ) × ((k < length (x ∷ zs)) × (get_or (x ∷ zs) k least ≡ least))
twice_place x least zs zero h e = (0, (omega arith, e))
twice_place x least zs (suc i) h e = (i, (omega arith, e))

twice : (x : ℤ) (best : Option ℤ) (zs : List ℤ) → IsLeast best (x ∷ x ∷ zs) → best ≡ least_of_list (x ∷ zs)
twice x None zs h = cc
twice x (Some least) zs h = sym (find-least (Some least) (x ∷ zs) (twice_place x least zs h.0.0 h.0.1.0 h.0.1.1, and_second (int_le least x) (list_all (int_le least) (x ∷ zs)) h.1))

first_again : (x : ℤ) (xs ys : List (Option ℤ)) → valid_items xs ≡ [] → least_valid (Some x ∷ (xs ++ Some x ∷ ys)) ≡ least_valid (xs ++ Some x ∷ ys)
first_again x xs ys none =
    let all : valid_items (xs ++ Some x ∷ ys) ≡ x ∷ valid_items ys = filter_map-append (λ (item : Option ℤ). item) xs (Some x ∷ ys) ∙ ap (λ zs. zs ++ x ∷ valid_items ys) none in
    ap (λ zs. least_of_list (x ∷ zs)) all ∙ (twice x (least_of_list (x ∷ x ∷ valid_items ys)) (valid_items ys) (least_is (x ∷ x ∷ valid_items ys)) ∙ ap least_of_list (sym all))

-- the first valid one of these items counts once
pub first_found : (items : List (Option ℤ)) (x : ℤ) (i : ℕ) → i < length items → valid_items (take i items) ≡ [] → get_or items i None ≡ Some x → least_valid (Some x ∷ items) ≡ least_valid items
first_found items x i h none here =
    let split : items ≡ take i items ++ Some x ∷ drop (i + 1) items = sym (take-append-drop i items) ∙ (ap (λ ys. take i items ++ ys) (drop_more items i None h) ∙ ap (λ o. take i items ++ o ∷ drop (i + 1) items) here) in
    ap (λ ys. least_valid (Some x ∷ ys)) split ∙ (first_again x (take i items) (drop (i + 1) items) none ∙ ap least_valid (sym split))

pub none_more : (items : List (Option ℤ)) (i : ℕ) → i < length items → valid_items (take i items) ≡ [] → get_or items i None ≡ None → valid_items (take (i + 1) items) ≡ []
none_more items i h none here =
    ap valid_items (take_more items i None h ∙ ap (λ o. take i items ++ o ∷ []) here) ∙ (filter_map-append (λ (item : Option ℤ). item) (take i items) (None ∷ []) ∙ ap (λ zs. zs ++ []) none)

pub none_found : (items : List (Option ℤ)) (i : ℕ) → length items ≤ i → valid_items (take i items) ≡ [] → least_valid items ≡ None
none_found items i h none = ap least_of_list (ap valid_items (sym (take_all i items h)) ∙ none)

-- ---- parts
-- two parts, of which one begins where the other ends
pub between_join : {A : Type 0} (xs : List A) (a b c : ℕ) → a ≤ b → b ≤ c → between a b xs ++ between b c xs ≡ between a c xs
between_join xs a b c ab bc =
    let sum : (b - a) + (c - b) ≡ c - a = omega arith in
    let place : a + (b - a) ≡ b = omega arith in
    ap (λ ys. between a b xs ++ take (c - b) ys) (sym (drop-drop (b - a) a xs ∙ ap (λ (n : ℕ). drop n xs) place)) ∙ (sym (take-add (b - a) (c - b) (drop a xs)) ∙ ap (λ (n : ℕ). take n (drop a xs)) sum)

pub least_of_nothing : (start end : ℕ) (xs : List (Option ℤ)) → end ≡ start → None ≡ least_valid (between start end xs)
least_of_nothing start end xs e =
    let none : start - start ≡ 0 = omega arith in
    rw (e, none) refl
