-- What loops that gather items keep from step to step, and what they have made at the end.
use Rattle.std.proofs.Common.{◌≡◌, ℕ, ℤ, ◌+◌, ◌-◌, ◌<◌, ◌≤◌, ◌||◌, pos, List, [], ◌∷◌, ◌++◌, length, map, take, replicate, get_or, slice_get, Option, Some, None, option_map, option_and_then, unsigned_abs, is_some, IsTrue, true, false, Bool, Ok, Err, refl, ap, ◌∙◌, sym, arith}
use borrow.Author.Count.{below_more}
use Rattle.std.specs.List.{list_all, flat_map}
use Rattle.fl_types.specs.Bits.{between}
use Rattle.std.proofs.lemmas.List.{map-append, map_more, take_all, length-map, replicate_more, take_more, flat_map_more, get_or-map, append_assoc, take-map, drop-map}
use Rattle.fl_types.specs.Integers.{fits}
use Rattle.fl_types.specs.Refusals.{Answers}
use Rattle.fl_types.specs.Types.{can_be_null}
use Rattle.fl_types.specs.Validities.{items_of, covers, nullability_of}
use Rattle.fl_types.specs.Values.{integer_of}
use Rattle.fl_types.specs.declared.scalar.PValue.{PValue}
use Rattle.fl_types.specs.declared.dtype.DType.TheVariants.{Primitive}
use Rattle.fl_types.specs.declared.dtype.PType.{PType}
use Rattle.fl_types.specs.declared.dtype.Nullability.{Nullability}
use Rattle.fl_types.specs.declared.error.FastLanesError.TheVariants.{IndexOutOfBounds}
use Rattle.fl_types.specs.declared.validity.Validity.{Validity}
use Rattle.fl_column.specs.Columns.{PrimitiveParts, column_of_primitive}
use Rattle.fl_column.specs.Operations.{is_in_range, kept, range_fits}
use Rattle.fl_column.specs.Queries.{each_next}
use Rattle.fl_column.specs.Selections.{is_below_length, are_below_length, item_at_position, items_at, positions_in}
use Rattle.fl_column.proofs.ItemLaws.{length-items_of, map_read}
use Rattle.fl_column.proofs.ListLaws.{all_at, all_fails, all_first, all_kept, all_more, between_more, kept_no, kept_yes}
use Rattle.fl_column.proofs.QueryLaws.{next_fails, next_holds}
use Rattle.fl_column.proofs.SelectionLaws.{all_positions, range_within, stands}
use Rattle.std.proofs.lemmas.Option.{get_or_from_slice_get}

-- one more item of a list that is mapped
pub mapped_more : {A B : Type 0} (f : A → B) (old new : List B) (xs : List A) (i : ℕ) (d : A) (y : B) → new ≡ old ++ y ∷ [] → old ≡ map f (take i xs) → y ≡ f (get_or xs i d) → i < length xs → new ≡ map f (take (i + 1) xs)
mapped_more f old new xs i d y added before here within = rw (added, before, here) (sym (map_more f xs i d within))

-- all items of a list that is mapped
pub mapped_all : {A B : Type 0} (f : A → B) (ys : List B) (xs : List A) (i : ℕ) → ys ≡ map f (take i xs) → length xs ≤ i → ys ≡ map f xs
mapped_all f ys xs i made full = made ∙ ap (map f) (take_all i xs full)

-- one more copy, seen through a map
pub repeated_more : {A B : Type 0} (f : A → B) (old new : List A) (x : A) (n : ℕ) → new ≡ old ++ x ∷ [] → map f old ≡ replicate n (f x) → map f new ≡ replicate (n + 1) (f x)
repeated_more f old new x n added before = rw (added, map-append, before) (replicate_more n (f x))

-- one more item of a list that is mapped twice, where the new list is seen through a map
pub read_more : {A B C D : Type 0} (value : B → D) (f : C → D) (h : A → C) (old new : List B) (x : B) (xs : List A) (i : ℕ) (a : A) → new ≡ old ++ x ∷ [] → map value old ≡ map f (map h (take i xs)) → value x ≡ f (h a) → a ≡ get_or xs i a → i < length xs
    → map value new ≡ map f (map h (take (i + 1) xs))
read_more value f h old new x xs i a added before here is within = rw (added, map-append, before, here, map_read h xs i a within is, map-append) refl

-- all items of a list that is mapped twice
pub read_all : {A C D : Type 0} (f : C → D) (h : A → C) (ys : List D) (xs : List A) (i : ℕ) → ys ≡ map f (map h (take i xs)) → length xs ≤ i → ys ≡ map f (map h xs)
read_all f h ys xs i made full = made ∙ ap (λ l. map f (map h l)) (take_all i xs full)

-- all slots are in range
pub range_all : {A : Type 0} (f : A → ℤ) (xs : List A) (zs : List ℤ) (t u : PType) (i : ℕ) → map f xs ≡ zs → u ≡ t → length xs ≤ i → list_all (fits t) (map f (take i xs)) ≡ true → IsTrue (list_all (fits u) zs)
range_all f xs zs t u i slots same full fit =
    let all : take i xs ≡ xs = take_all i xs full in
    let each : list_all (fits t) (map f xs) ≡ true = rw all at fit in
    rw (same, ← slots) each

-- no null where none may stand, as in the items that these are
pub nulls_kept : (n : Nullability) (ys items : List (Option ℤ)) → ys ≡ items → IsTrue (can_be_null n || list_all is_some items) → IsTrue (can_be_null n || list_all is_some ys)
nulls_kept n ys items same nulls = rw same nulls

-- the array of the items that were gathered
pub gathered_all : (t u : PType) (n : Nullability) (ys items : List (Option ℤ)) (array : PrimitiveParts) → column_of_primitive array ≡ record { dtype = Primitive t n; items = ys } → u ≡ t → ys ≡ items
    → Answers column_of_primitive (Ok array) (Ok (record { dtype = Primitive u n; items = items }))
gathered_all t u n ys items array made same all = rw (made, same, all) refl

-- a position among the items is one among their slots
pub position_below : {A : Type 0} (f : A → ℤ) (xs : List A) (zs : List ℤ) (positions : List (Option ℕ)) (i : ℕ) → map f xs ≡ zs → IsTrue (are_below_length (length zs) positions) → i < length positions → IsTrue (is_below_length (length xs) (get_or positions i None))
position_below f xs zs positions i slots below within =
    let each : length xs ≡ length zs = sym (length-map xs f) ∙ ap length slots in
    rw each (all_at (is_below_length (length zs)) positions i None below within)

-- one more item at a position
pub taken_item_more : (v : Validity) (slots zs : List ℤ) (positions : List (Option ℕ)) (i : ℕ) (old new : List (Option ℤ)) (y : Option ℤ) → slots ≡ zs → new ≡ old ++ y ∷ [] → old ≡ items_at (items_of v zs) (take i positions)
    → y ≡ item_at_position (items_of v slots) (get_or positions i None) → i < length positions → new ≡ items_at (items_of v zs) (take (i + 1) positions)
taken_item_more v slots zs positions i old new y same added before here within =
    mapped_more (item_at_position (items_of v zs)) old new positions i None y added before (here ∙ ap (λ s. item_at_position (items_of v s) (get_or positions i None)) same) within

-- as many items as slots
items_long : {A : Type 0} (f : A → ℤ) (xs : List A) (zs : List ℤ) (v : Validity) → map f xs ≡ zs → IsTrue (covers v (length zs)) → length (items_of v (map f xs)) ≡ length xs
items_long f xs zs v slots covered =
    let here : IsTrue (covers v (length (map f xs))) = rw slots covered in
    length-items_of v (map f xs) here ∙ length-map xs f

-- the first items are all, where so many slots were read
pub items_all : {A : Type 0} (f : A → ℤ) (xs : List A) (zs : List ℤ) (v : Validity) (i : ℕ) → map f xs ≡ zs → IsTrue (covers v (length zs)) → length xs ≤ i → take i (items_of v (map f xs)) ≡ items_of v zs
items_all f xs zs v i slots covered full =
    let long : length (items_of v (map f xs)) ≡ length xs = items_long f xs zs v slots covered in
    take_all i (items_of v (map f xs)) (omega arith) ∙ ap (items_of v) slots

-- a value at each position
pub spread_all : {A : Type 0} (f : A → ℤ) (typed : Option A) (value : Option PValue) (ys : List (Option ℤ)) (positions : List (Option ℕ)) (i : ℕ) → option_map f typed ≡ option_map integer_of value → ys ≡ map (option_and_then (λ j. option_map f typed)) (take i positions) → length positions ≤ i
    → ys ≡ map (option_and_then (λ j. option_map integer_of value)) positions
spread_all f typed value ys positions i same made full = mapped_all (option_and_then (λ j. option_map f typed)) ys positions i made full ∙ ap (λ z. map (option_and_then (λ j. z)) positions) same

-- one more item that the bits keep
pub filtered_yes : {A : Type 0} (f : A → ℤ) (xs : List A) (zs : List ℤ) (v : Validity) (bits : List Bool) (i : ℕ) (bit : Bool) (old new : List (Option ℤ)) (y : Option ℤ) → map f xs ≡ zs → IsTrue (covers v (length zs)) → length bits ≡ length zs → i < length xs
    → slice_get bits i ≡ Some bit → bit ≡ true → old ≡ kept (take i bits) (take i (items_of v (map f xs))) → new ≡ old ++ y ∷ [] → y ≡ get_or (items_of v (map f xs)) i None
    → new ≡ kept (take (i + 1) bits) (take (i + 1) (items_of v (map f xs)))
filtered_yes f xs zs v bits i bit old new y slots covered even within got set before added read =
    let long : length (items_of v (map f xs)) ≡ length xs = items_long f xs zs v slots covered in
    let same : length zs ≡ length xs = ap length (sym slots) ∙ length-map xs f in
    let here : get_or bits i false ≡ true = get_or_from_slice_get bits i bit false got ∙ set in
    rw (added, before, read) (sym (kept_yes bits (items_of v (map f xs)) i None (omega arith) (omega arith) here))

-- one more item that the bits leave out
pub filtered_no : {A : Type 0} (f : A → ℤ) (xs : List A) (zs : List ℤ) (v : Validity) (bits : List Bool) (i : ℕ) (bit : Bool) (old : List (Option ℤ)) → map f xs ≡ zs → IsTrue (covers v (length zs)) → length bits ≡ length zs → i < length xs
    → slice_get bits i ≡ Some bit → bit ≡ false → old ≡ kept (take i bits) (take i (items_of v (map f xs))) → old ≡ kept (take (i + 1) bits) (take (i + 1) (items_of v (map f xs)))
filtered_no f xs zs v bits i bit old slots covered even within got clear before =
    let long : length (items_of v (map f xs)) ≡ length xs = items_long f xs zs v slots covered in
    let same : length zs ≡ length xs = ap length (sym slots) ∙ length-map xs f in
    let here : get_or bits i false ≡ false = get_or_from_slice_get bits i bit false got ∙ clear in
    before ∙ sym (kept_no bits (items_of v (map f xs)) i (omega arith) (omega arith) here)

-- no null where none may stand, as in the items that the bits keep some of
pub filtered_nulls : (v : Validity) (slots : List ℤ) (n : Nullability) (bits : List Bool) (i : ℕ) (ys : List (Option ℤ)) → n ≡ nullability_of v → ys ≡ kept (take i bits) (take i (items_of v slots)) → IsTrue (can_be_null n || list_all is_some ys)
filtered_nulls v slots n bits i ys same made = stands v slots n ys same (λ h. rw made (all_kept is_some (take i bits) (take i (items_of v slots)) (all_first is_some (items_of v slots) i h)))

-- the array of the items that the bits keep
pub filtered_all : {A : Type 0} (f : A → ℤ) (xs : List A) (zs : List ℤ) (v : Validity) (bits : List Bool) (i : ℕ) (t u : PType) (n : Nullability) (ys : List (Option ℤ)) (array : PrimitiveParts) → map f xs ≡ zs → IsTrue (covers v (length zs)) → length bits ≡ length zs → length xs ≤ i
    → column_of_primitive array ≡ record { dtype = Primitive t n; items = ys } → u ≡ t → n ≡ nullability_of v → ys ≡ kept (take i bits) (take i (items_of v (map f xs)))
    → Answers column_of_primitive (Ok array) (Ok (record { dtype = Primitive u (nullability_of v); items = kept bits (items_of v zs) }))
filtered_all f xs zs v bits i t u n ys array slots covered even full made same nullable kept_so =
    let long : length zs ≡ length xs = ap length (sym slots) ∙ length-map xs f in
    let all_items : take i (items_of v (map f xs)) ≡ items_of v zs = items_all f xs zs v i slots covered full in
    let all_bits : take i bits ≡ bits = take_all i bits (omega arith) in
    rw (made, kept_so, nullable, all_items, all_bits, same) refl

-- one more position
pub positions_more : {A : Type 0} (f : A → ℤ) (xs : List A) (zs : List ℤ) (v : Validity) (len i : ℕ) (old new : List (Option ℕ)) (position : Option ℕ) (x : Option ℤ) → map f xs ≡ zs → IsTrue (covers v (length zs)) → i < length xs
    → list_all (is_in_range len) (take i (items_of v (map f xs))) ≡ true → old ≡ map (option_map unsigned_abs) (take i (items_of v (map f xs))) → new ≡ old ++ position ∷ [] → true ≡ is_in_range len x → position ≡ option_map unsigned_abs x → x ≡ get_or (items_of v (map f xs)) i None
    → (list_all (is_in_range len) (take (i + 1) (items_of v (map f xs))) ≡ true) × (new ≡ map (option_map unsigned_abs) (take (i + 1) (items_of v (map f xs))))
positions_more f xs zs v len i old new position x slots covered within range before added fits named read =
    let long : length (items_of v (map f xs)) ≡ length xs = items_long f xs zs v slots covered in
    let inside : i < length (items_of v (map f xs)) = omega arith in
    (all_more (is_in_range len) (items_of v (map f xs)) i None inside range (rw (← read) (sym fits)), mapped_more (option_map unsigned_abs) old new (items_of v (map f xs)) i None position added before (named ∙ ap (option_map unsigned_abs) read) inside)

-- an index that names no item
pub positions_fail : {A : Type 0} (f : A → ℤ) (xs : List A) (zs : List ℤ) (v : Validity) (len i : ℕ) (x : Option ℤ) → map f xs ≡ zs → IsTrue (covers v (length zs)) → i < length xs → false ≡ is_in_range len x → x ≡ get_or (items_of v (map f xs)) i None
    → positions_in len (items_of v zs) ≡ Err IndexOutOfBounds
positions_fail f xs zs v len i x slots covered within fails read =
    let long : length (items_of v (map f xs)) ≡ length xs = items_long f xs zs v slots covered in
    let inside : i < length (items_of v (map f xs)) = omega arith in
    let some : list_all (is_in_range len) (items_of v (map f xs)) ≡ false = all_fails (is_in_range len) (items_of v (map f xs)) i None inside (rw (← read) (sym fails)) in
    let none : list_all (is_in_range len) (items_of v zs) ≡ false = rw slots at some in
    rw none refl

-- the positions of all items
pub positions_end : {A : Type 0} (f : A → ℤ) (xs : List A) (zs : List ℤ) (v : Validity) (len i : ℕ) (positions : List (Option ℕ)) → map f xs ≡ zs → IsTrue (covers v (length zs)) → length xs ≤ i
    → list_all (is_in_range len) (take i (items_of v (map f xs))) ≡ true → positions ≡ map (option_map unsigned_abs) (take i (items_of v (map f xs))) → positions_in len (items_of v zs) ≡ Ok positions
positions_end f xs zs v len i positions slots covered full range is =
    let long : length (items_of v (map f xs)) ≡ length xs = items_long f xs zs v slots covered in
    rw (← slots) (all_positions len (items_of v (map f xs)) positions i (omega arith) range is)

-- one more pair
pub pairs_more : {A : Type 0} (p : A → A → Bool) (xs : List A) (d : A) (i : ℕ) (x y : A) → 1 ≤ i → ((k : ℕ) → k + 1 < i → p (get_or xs k d) (get_or xs (k + 1) d) ≡ true) → true ≡ p x y → x ≡ get_or xs (i - 1) d → y ≡ get_or xs i d
    → (k : ℕ) → k + 1 < i + 1 → p (get_or xs k d) (get_or xs (k + 1) d) ≡ true
pairs_more p xs d i x y from below here first second =
    let next : i - 1 + 1 ≡ i = omega arith in
    let last : p (get_or xs (i - 1) d) (get_or xs (i - 1 + 1) d) ≡ true = rw (next, ← first, ← second) (sym here) in
    λ k h. below_more (λ j. p (get_or xs j d) (get_or xs (j + 1) d) ≡ true) (i - 1) (λ j l. below j (omega arith)) last k (omega arith)

-- a pair that is out of order
pub pairs_fail : {A : Type 0} (p : Option ℤ → Option ℤ → Bool) (f : A → ℤ) (xs : List A) (zs : List ℤ) (v : Validity) (i : ℕ) (x y : Option ℤ) → map f xs ≡ zs → IsTrue (covers v (length zs)) → 1 ≤ i → i < length xs
    → false ≡ p x y → x ≡ get_or (items_of v (map f xs)) (i - 1) None → y ≡ get_or (items_of v (map f xs)) i None → false ≡ each_next p (items_of v zs)
pairs_fail p f xs zs v i x y slots covered from within fails first second =
    let long : length (items_of v (map f xs)) ≡ length xs = items_long f xs zs v slots covered in
    let next : i - 1 + 1 ≡ i = omega arith in
    let last : p (get_or (items_of v (map f xs)) (i - 1) None) (get_or (items_of v (map f xs)) (i - 1 + 1) None) ≡ false = rw (next, ← first, ← second) (sym fails) in
    rw (← slots) (sym (next_fails p (items_of v (map f xs)) (i - 1) None (omega arith) last))

-- all pairs are in order
pub pairs_all : {A : Type 0} (p : Option ℤ → Option ℤ → Bool) (f : A → ℤ) (xs : List A) (zs : List ℤ) (v : Validity) (i : ℕ) → map f xs ≡ zs → IsTrue (covers v (length zs)) → length xs ≤ i
    → ((k : ℕ) → k + 1 < i → p (get_or (items_of v (map f xs)) k None) (get_or (items_of v (map f xs)) (k + 1) None) ≡ true) → true ≡ each_next p (items_of v zs)
pairs_all p f xs zs v i slots covered full below =
    let long : length (items_of v (map f xs)) ≡ length xs = items_long f xs zs v slots covered in
    rw (← slots) (sym (next_holds p (items_of v (map f xs)) None (λ k h. below k (omega arith))))

-- the validity covers the slots that were read
pub covers_read : {A : Type 0} (f : A → ℤ) (xs : List A) (zs : List ℤ) (v : Validity) → map f xs ≡ zs → IsTrue (covers v (length zs)) → IsTrue (covers v (length xs))
covers_read f xs zs v slots covered =
    let each : length xs ≡ length zs = sym (length-map xs f) ∙ ap length slots in
    rw each covered

-- what lies within the slots lies within the items that are read
pub within_read : {A : Type 0} (f : A → ℤ) (xs : List A) (zs : List ℤ) (n : ℕ) → map f xs ≡ zs → n ≤ length zs → n ≤ length xs
within_read f xs zs n slots within =
    let each : length xs ≡ length zs = sym (length-map xs f) ∙ ap length slots in
    rw each within

pub below_read : {A : Type 0} (f : A → ℤ) (xs : List A) (zs : List ℤ) (i : ℕ) → map f xs ≡ zs → i < length zs → i < length xs
below_read f xs zs i slots within =
    let each : length xs ≡ length zs = sym (length-map xs f) ∙ ap length slots in
    rw each within

-- the slots that were made of a part of the items that are read
pub part_read : {A : Type 0} (f : A → ℤ) (xs part : List A) (zs made : List ℤ) (start end : ℕ) → map f xs ≡ zs → part ≡ between start end xs → made ≡ map f part → made ≡ between start end zs
part_read f xs part zs made start end slots is values = rw (values, is, ← slots, drop-map, take-map) refl

-- the value of an item that is read, seen among the slots
pub slot_read : {A : Type 0} (f : A → ℤ) (xs : List A) (zs : List ℤ) (i : ℕ) (x : A) (z : ℤ) → map f xs ≡ zs → i < length zs → x ≡ get_or xs i x → z ≡ f x → z ≡ get_or zs i z
slot_read f xs zs i x z slots within is value =
    rw (← slots) (value ∙ ap f is ∙ sym (get_or-map f xs i x z (below_read f xs zs i slots within)))

-- a bit for each slot that was read
pub bit_within : {A : Type 0} (f : A → ℤ) (xs : List A) (zs : List ℤ) (n i : ℕ) → map f xs ≡ zs → n ≡ length zs → i < length xs → i < n
bit_within f xs zs n i slots even within =
    let each : length xs ≡ length zs = sym (length-map xs f) ∙ ap length slots in
    omega arith

-- the items of one more range
pub ranges_more : (v : Validity) (slots zs : List ℤ) (ranges : List (ℕ × ℕ)) (i : ℕ) (range : ℕ × ℕ) (old new : List (Option ℤ)) → slots ≡ zs → new ≡ old ++ between range.0 (range.0 + range.1) (items_of v slots) → old ≡ flat_map (λ r. between r.0 (r.0 + r.1) (items_of v zs)) (take i ranges)
    → range ≡ get_or ranges i (0, 0) → i < length ranges → new ≡ flat_map (λ r. between r.0 (r.0 + r.1) (items_of v zs)) (take (i + 1) ranges)
ranges_more v slots zs ranges i range old new same added before is within =
    rw (added, before, same, take_more ranges i (0, 0) within, ← is) (flat_map_more (λ r. between r.0 (r.0 + r.1) (items_of v zs)) [] (take i ranges) range)

-- the array of the items of all ranges
pub ranges_all : (v : Validity) (zs : List ℤ) (ranges : List (ℕ × ℕ)) (i : ℕ) (t u : PType) (n : Nullability) (ys : List (Option ℤ)) (array : PrimitiveParts) → column_of_primitive array ≡ record { dtype = Primitive t n; items = ys } → u ≡ t → n ≡ nullability_of v
    → ys ≡ flat_map (λ r. between r.0 (r.0 + r.1) (items_of v zs)) (take i ranges) → length ranges ≤ i
    → Answers column_of_primitive (Ok array) (Ok (record { dtype = Primitive u (nullability_of v); items = flat_map (λ r. between r.0 (r.0 + r.1) (items_of v zs)) ranges }))
ranges_all v zs ranges i t u n ys array made same nullable taken full =
    let all : take i ranges ≡ ranges = take_all i ranges full in
    rw (made, taken, all, nullable, same) refl

-- one more item of a range
pub range_more : {A : Type 0} (f : A → ℤ) (xs : List A) (v : Validity) (start len k : ℕ) (before old new : List (Option ℤ)) (y : Option ℤ) → IsTrue (covers v (length xs)) → IsTrue (range_fits (length xs) (start, len)) → k < len
    → new ≡ old ++ y ∷ [] → old ≡ before ++ between start (start + k) (items_of v (map f xs)) → y ≡ get_or (items_of v (map f xs)) (start + k) None → new ≡ before ++ between start (start + (k + 1)) (items_of v (map f xs))
range_more f xs v start len k before old new y covered range below added so read =
    let long : length (items_of v (map f xs)) ≡ length xs = length-items_of v (map f xs) (rw length-map covered) ∙ length-map xs f in
    let reach = range_within (length xs) start len k range below in
    rw (added, so, between_more (items_of v (map f xs)) start k None (omega arith), read) (append_assoc before (between start (start + k) (items_of v (map f xs))) (get_or (items_of v (map f xs)) (start + k) None ∷ []))

-- an item, as a list of the values has it
pub value_read : {A : Type 0} (f : A → ℤ) (xs : List A) (i : ℕ) (x : A) → x ≡ get_or xs i x → i < length xs → get_or (map f xs) i (pos 0) ≡ f x
value_read f xs i x is within = get_or-map f xs i x (pos 0) within ∙ ap f (sym is)
