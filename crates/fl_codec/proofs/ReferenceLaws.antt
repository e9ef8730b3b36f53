-- The references of chunks, and slots less them.
use Rattle.std.proofs.Common.{◌≡◌, ℕ, ℤ, pos, zero, suc, ◌+◌, ◌<◌, ◌≤◌, Bool, true, false, List, [], ◌∷◌, ◌++◌, length, map, take, drop, get_or, Option, Some, None, option_map, unwrap_or, inl, inr, refl, ap, sym, ◌∙◌, arith}
use Rattle.std.specs.List.{list_all}
use Rattle.std.specs.Ordering.{int_eq}
use Rattle.std.proofs.lemmas.List.{take_more, drop_more}
use Rattle.std.proofs.lemmas.List.FromFn.{get_or-map-range_with_len, length-map-range_with_len, map-range_with_len_more}
use Rattle.std.proofs.lemmas.Bool.{cases_lt, true≢false}
use Rattle.std.proofs.lemmas.Bool.Decides.{Decides-int_eq}
use Rattle.fl_types.specs.declared.dtype.PType.{PType}
use Rattle.fl_types.specs.Bits.{tabulate}
use Rattle.fl_types.specs.Integers.{fits}
use Rattle.std.specs.Prelude.{IfOk, Result}
use Rattle.std.proofs.Common.{subst, IsTrue, is_none, length-drop, ◌-◌, ◌*◌, min}
use Rattle.std.proofs.lemmas.List.{get_or-map, length-map, map-append, map_more, take_all}
use Rattle.fl_types.specs.Bits.{between}
use Rattle.fl_types.specs.Validities.{covers, is_valid_at, items_of}
use Rattle.fl_types.specs.declared.validity.Validity.{Validity}
use Rattle.fl_column.proofs.ItemLaws.{get_or-items_of, length-items_of}
use Rattle.fl_column.proofs.ListLaws.{all_fails, all_from, and_first, and_second, and_true}
use Rattle.fl_codec.specs.Chunks.{chunk, chunks_of}
use Rattle.fl_codec.specs.ForwardFill.{either, first_some, last_some}
use Rattle.fl_column.specs.Columns.{PrimitiveParts}
use Rattle.fl_codec.specs.Parts.{items_of_primitive, less_chunk_leasts, less_common}
use Rattle.fl_codec.specs.FoRColumns.{chunk_leasts, chunk_references, common_reference, least_by, reading, reference_of_chunk}
use Rattle.fl_codec.specs.declared.for_.ItemOrder.{ItemOrder}

-- ---- the first that is there
pub first_at : (xs : List (Option ℤ)) (k : ℕ) (x : Option ℤ) → k < length xs → get_or xs k None ≡ x → first_some (drop k xs) ≡ either x (first_some (drop (k + 1) xs))
first_at xs k x h e = rw (drop_more xs k None h, e) refl

pub first_past : (xs : List (Option ℤ)) (k : ℕ) → length xs ≤ k → first_some (drop k xs) ≡ None
first_past [] zero h = refl
first_past [] (suc k) h = refl
first_past (x ∷ xs) zero h = absurd (omega arith)
first_past (x ∷ xs) (suc k) h = first_past xs k (omega arith)

-- ---- the last that is there
pub last_push : {A : Type 0} (xs : List (Option A)) (x : Option A) → last_some (xs ++ x ∷ []) ≡ either x (last_some xs)
last_push [] None = refl
last_push [] (Some x) = refl
last_push (y ∷ xs) None = ap (λ z. either z y) (last_push xs None)
last_push (y ∷ xs) (Some x) = ap (λ z. either z y) (last_push xs (Some x))

pub last_more : {A : Type 0} (xs : List (Option A)) (k : ℕ) → k < length xs → last_some (take (k + 1) xs) ≡ either (get_or xs k None) (last_some (take k xs))
last_more xs k h = ap last_some (take_more xs k None h) ∙ last_push (take k xs) (get_or xs k None)

pub unwrap_or-either : {A : Type 0} (x y : Option A) (d : A) → unwrap_or (either x y) d ≡ unwrap_or x (unwrap_or y d)
unwrap_or-either (Some x) y d = refl
unwrap_or-either None y d = refl

pub unwrap_or-option_map : {A B : Type 0} (f : A → B) (x : Option A) (d : A) → f (unwrap_or x d) ≡ unwrap_or (option_map f x) (f d)
unwrap_or-option_map f (Some x) d = refl
unwrap_or-option_map f None d = refl

-- ---- tables
pub get_or-table : {A : Type 0} (f : ℕ → A) (n k : ℕ) (d : A) → k < n → get_or (tabulate f n) k d ≡ f k
get_or-table f n k d h = get_or-map-range_with_len f 0 n k k d h (omega arith)

pub length-table : {A : Type 0} (f : ℕ → A) (n : ℕ) → length (tabulate f n) ≡ n
length-table f n = length-map-range_with_len f 0 n

pub table_more : {A : Type 0} (f : ℕ → A) (n : ℕ) → tabulate f (n + 1) ≡ tabulate f n ++ f n ∷ []
table_more f n = map-range_with_len_more f 0 n n (omega arith)

-- ---- references
-- one more chunk's reference
pub reference_more : (leasts : List (Option ℤ)) (k : ℕ) (before : ℤ) → k < length leasts → before ≡ unwrap_or (last_some (take k leasts)) (unwrap_or (first_some leasts) (pos 0))
    → unwrap_or (get_or leasts k None) before ≡ reference_of_chunk leasts k
reference_more leasts k before h e = rw (e, last_more leasts k h) (sym (unwrap_or-either (get_or leasts k None) (last_some (take k leasts)) (unwrap_or (first_some leasts) (pos 0))))

int_eq-refl : (z : ℤ) → int_eq z z ≡ true
int_eq-refl z = (Decides-int_eq z z).1 refl

-- one is not the first
pub common-none : (zs : List ℤ) (first other : ℤ) (i : ℕ) → i < length zs → first ≡ get_or zs 0 first → other ≡ get_or zs i other → int_eq first other ≡ false → common_reference zs ≡ None
common-none [] first other i h e f differs = absurd (omega arith)
common-none (z ∷ zs) first other zero h e f differs = absurd (true≢false (sym (int_eq-refl z) ∙ (ap (int_eq z) (sym f) ∙ (ap (λ x. int_eq x other) (sym e) ∙ differs))))
common-none (z ∷ zs) first other (suc i) h e f differs =
    let fails : int_eq z (get_or zs i other) ≡ false = ap (int_eq z) (sym f) ∙ (ap (λ x. int_eq x other) (sym e) ∙ differs) in
    rw (all_fails (int_eq z) zs i other (omega arith) fails) refl

-- all are the first
pub common-some : (zs : List ℤ) (first : ℤ) → 0 < length zs → first ≡ get_or zs 0 first → list_all (int_eq first) zs ≡ true → Some first ≡ common_reference zs
common-some [] first h e all = absurd (omega arith)
common-some (z ∷ zs) first h e all =
    let others : list_all (int_eq z) zs ≡ true = subst (λ f. list_all (int_eq f) zs ≡ true) e (and_second (int_eq first z) (list_all (int_eq first) zs) all) in
    rw others (ap (λ f. Some f) e)

-- one more value that passes, of elements that are read
pub all_read : {A : Type 0} (value : A → ℤ) (p : ℤ → Bool) (xs : List A) (y : A) (n : ℕ) → n < length xs → y ≡ get_or xs n y → list_all p (map value (take n xs)) ≡ true → p (value y) ≡ true → list_all p (map value (take (n + 1) xs)) ≡ true
all_read value p [] y n h is before here = absurd (omega arith)
all_read value p (x ∷ xs) y zero h is before here = and_true (p (value x)) true (subst (λ z. p (value z) ≡ true) is here) refl
all_read value p (x ∷ xs) y (suc n) h is before here =
    let next : suc n + 1 ≡ suc (n + 1) = omega arith in
    rw next (and_true (p (value x)) (list_all p (map value (take (n + 1) xs))) (and_first (p (value x)) (list_all p (map value (take n xs))) before)
    (all_read value p xs y n (omega arith) is (and_second (p (value x)) (list_all p (map value (take n xs))) before) here))

-- ---- items that a loop reads
-- there is an item for each slot
pub length-items_read : {A B : Type 0} (f : A → B) (v : Validity) (xs : List A) → IsTrue (covers v (length xs)) → length (items_of v (map f xs)) ≡ length xs
length-items_read f v xs covered = length-items_of v (map f xs) (rw length-map covered) ∙ length-map xs f

-- a part that reaches beyond the end
pub between_beyond : {A : Type 0} (xs : List A) (start end : ℕ) → start ≤ length xs → between start (min end (length xs)) xs ≡ between start end xs
between_beyond xs start end h =
    let rest = length-drop start xs in
    elim (cases_lt end (length xs)) [
      | inl within ↦ let same : min end (length xs) ≡ end = omega arith in rw same refl
      | inr beyond ↦
          let all : length (drop start xs) ≤ min end (length xs) - start = omega arith in
          let more : length (drop start xs) ≤ end - start = omega arith in
          take_all (min end (length xs) - start) (drop start xs) all ∙ sym (take_all (end - start) (drop start xs) more)
    ]

-- a chunk, whose end the code cuts to the length
pub chunk_reached : {A : Type 0} (xs : List A) (k end : ℕ) → k < chunks_of (length xs) → end ≡ min (1024 * (k + 1)) (length xs) → between (1024 * k) end xs ≡ chunk k xs
chunk_reached xs k end h e = rw e (between_beyond xs (1024 * k) (1024 * (k + 1)) (omega arith))

-- ---- lists that a loop makes
-- one more element of a list that is a table, seen through its values
pub table_push : {A B : Type 0} (value : A → B) (f : ℕ → B) (new old : List A) (x : A) (n : ℕ) → new ≡ old ++ x ∷ [] → map value old ≡ tabulate f n → value x ≡ f n → map value new ≡ tabulate f (n + 1)
table_push value f new old x n pushed before here = rw (pushed, map-append, before, here) (sym (table_more f n))

-- one more element of a list that is mapped, seen through its values
pub map_push : {A B C : Type 0} (value : A → B) (f : C → B) (xs : List C) (new old : List A) (x : A) (n : ℕ) (d : C) → n < length xs → new ≡ old ++ x ∷ [] → map value old ≡ map f (take n xs) → value x ≡ f (get_or xs n d) → map value new ≡ map f (take (n + 1) xs)
map_push value f xs new old x n d h pushed before here = rw (pushed, map-append, before, here) (sym (map_more f xs n d h))

-- the first least item from chunk k on
pub first_least_at : (read : ℤ → ℤ) (items : List (Option ℤ)) (k : ℕ) (x : Option ℤ) → k < chunks_of (length items) → least_by read (chunk k items) ≡ x → first_some (drop k (chunk_leasts read items)) ≡ either x (first_some (drop (k + 1) (chunk_leasts read items)))
first_least_at read items k x h e =
    first_at (chunk_leasts read items) k x (rw (length-table (λ j. least_by read (chunk j items)) (chunks_of (length items))) h) (get_or-table (λ j. least_by read (chunk j items)) (chunks_of (length items)) k None h ∙ e)

-- the reference of chunk k, and what is carried on
pub reference_at : (read : ℤ → ℤ) (items : List (Option ℤ)) (k : ℕ) (before here : ℤ) (x : Option ℤ) → k < chunks_of (length items) → least_by read (chunk k items) ≡ x → before ≡ unwrap_or (last_some (take k (chunk_leasts read items))) (unwrap_or (first_some (chunk_leasts read items)) (pos 0))
    → here ≡ unwrap_or x before → here ≡ reference_of_chunk (chunk_leasts read items) k
reference_at read items k before here x h e carried is =
    let long = length-table (λ j. least_by read (chunk j items)) (chunks_of (length items)) in
    let entry = get_or-table (λ j. least_by read (chunk j items)) (chunks_of (length items)) k None h in
    is ∙ (ap (λ y. unwrap_or y before) (sym e ∙ sym entry) ∙ reference_more (chunk_leasts read items) k before (rw long h) carried)

-- the value of an element that was read
pub value_read : {A B : Type 0} (value : A → B) (xs : List A) (i : ℕ) (x : A) (d : B) → i < length xs → x ≡ get_or xs i x → value x ≡ get_or (map value xs) i d
value_read value xs i x d h e = ap value e ∙ sym (get_or-map value xs i x d h)

pub value_at : {A B : Type 0} (value : A → B) (xs : List A) (i : ℕ) (x : A) → i < length xs → x ≡ get_or xs i x → value x ≡ get_or (map value xs) i (value x)
value_at value xs i x h e = value_read value xs i x (value x) h e

-- all items at once
pub between_whole : {A : Type 0} (xs : List A) (n : ℕ) → length xs ≡ n → between 0 n xs ≡ xs
between_whole xs n e = let all : length xs ≤ n - 0 = omega arith in take_all (n - 0) xs all

-- an item that is no null
pub valid_fails : (v : Validity) (xs : List ℤ) (i : ℕ) → IsTrue (covers v (length xs)) → i < length xs → is_valid_at v i ≡ true → list_all is_none (items_of v xs) ≡ false
valid_fails v xs i covered h valid =
    let item : get_or (items_of v xs) i None ≡ Some (get_or xs i (pos 0)) = get_or-items_of v xs i (pos 0) covered h ∙ (rw valid refl) in
    all_fails is_none (items_of v xs) i None (rw (length-items_of v xs covered) h) (ap is_none item)

-- no item that is no null
pub nulls_all : (v : Validity) (xs : List ℤ) → IsTrue (covers v (length xs)) → ((i : ℕ) → i < length xs → is_valid_at v i ≡ false) → list_all is_none (items_of v xs) ≡ true
nulls_all v xs covered nulls =
    all_from is_none (items_of v xs) None (λ i h.
    let within : i < length xs = rw (length-items_of v xs covered) at h in
    let item : get_or (items_of v xs) i None ≡ None = get_or-items_of v xs i (pos 0) covered within ∙ (rw (nulls i within) refl) in
    ap is_none item)

-- a list has as many elements as its values
pub length_of_values : {A B : Type 0} (value : A → B) (xs : List A) (ys : List B) → map value xs ≡ ys → length xs ≡ length ys
length_of_values value xs ys e = sym (length-map xs value) ∙ ap length e

-- the least valid item of a plain array, as a loop over all of its slots finds it
pub least_of_plain : {A : Type 0} (read : ℤ → ℤ) (value : A → ℤ) (p : PrimitiveParts) (v : Validity) (xs : List A) (least : Option ℤ) → v ≡ p.validity → IsTrue (covers p.validity (length p.slots)) → map value xs ≡ p.slots
    → least ≡ least_by read (between 0 (length xs) (items_of v (map value xs))) → least_by read (items_of_primitive p) ≡ least
least_of_plain read value p v xs least same covered slots e =
    let long : length (items_of p.validity p.slots) ≡ length xs = length-items_of p.validity p.slots covered ∙ (ap length (sym slots) ∙ length-map xs value) in
    sym (e ∙ (rw (same, slots) (ap (least_by read) (between_whole (items_of p.validity p.slots) (length xs) long))))

-- the references of a plain array, as a loop over all of its slots finds them, and the frame that they make
pub references_of_plain : {A : Type 0} (order : ItemOrder) (ptype : PType) (value : A → ℤ) (p : PrimitiveParts) (v : Validity) (xs : List A) (references : List ℤ) (common : Option ℤ) → p.ptype ≡ ptype → v ≡ p.validity → map value xs ≡ p.slots
    → references ≡ chunk_references (reading order ptype) (items_of v (map value xs)) → common ≡ common_reference references → less_common p references common ≡ less_chunk_leasts order p
references_of_plain order ptype value p v xs references common typed same slots e f = rw (f, e, ← typed, same, slots) refl

-- the references of a plain array alone
pub made_of_plain : {A V E : Type 0} (order : ItemOrder) (ptype : PType) (value : A → ℤ) (p : PrimitiveParts) (v : Validity) (xs : List A) (made : V → List ℤ) (r : Result V E) → p.ptype ≡ ptype → v ≡ p.validity → map value xs ≡ p.slots
    → IfOk r (λ m. made m ≡ chunk_references (reading order ptype) (items_of v (map value xs))) → IfOk r (λ m. made m ≡ chunk_references (reading order p.ptype) (items_of_primitive p))
made_of_plain order ptype value p v xs made r typed same slots h = rw (typed, ← same, ← slots) h

-- the items of a plain array, as its parts are read
pub same_items : {A : Type 0} (value : A → ℤ) (p : PrimitiveParts) (v : Validity) (xs : List A) → v ≡ p.validity → map value xs ≡ p.slots → items_of v (map value xs) ≡ items_of_primitive p
same_items value p v xs same slots = rw (same, slots) refl

-- a plain array's validity has a bit for each of its slots, as its parts are read
pub covered_read : {A : Type 0} (value : A → ℤ) (p : PrimitiveParts) (v : Validity) (xs : List A) → v ≡ p.validity → IsTrue (covers p.validity (length p.slots)) → map value xs ≡ p.slots → IsTrue (covers v (length xs))
covered_read value p v xs same covered slots = rw (same, length_of_values value xs p.slots slots) covered

-- the slots of a plain array are of its type, as its parts are read
pub fit_read : {A : Type 0} (value : A → ℤ) (p : PrimitiveParts) (ptype : PType) (xs : List A) → p.ptype ≡ ptype → IsTrue (list_all (fits p.ptype) p.slots) → map value xs ≡ p.slots → IsTrue (list_all (fits ptype) (map value xs))
fit_read value p ptype xs typed fit slots = rw (slots, ← typed) fit
