-- Exceptions that are found one by one.
use Rattle.std.proofs.Common.{◌≡◌, ℕ, ℤ, pos, suc, zero, ◌+◌, ◌-◌, ◌*◌, ◌<◌, ◌≤◌, ◌^◌, Bool, true, false, cond, List, [], ◌∷◌, ◌++◌, length, map, take, drop, get_or, Option, Some, None, min, refl, ap, sym, subst, ◌∙◌, arith, nat_lt, le_trans, inl, inr, ◌⊎◌, zero-add}
use Rattle.std.proofs.lemmas.Bool.{cases_Bool, le-ltb, lt-ltb}
use Rattle.std.proofs.lemmas.List.{append-nil, append_assoc, get_or-map, length-append, length-map, length-take, length-drop, map-append, get_or-drop, get_or-take, get_or_default, take-map, drop-map}
use Rattle.fl_types.specs.declared.dtype.PType.{PType}
use Rattle.fl_types.specs.declared.validity.Validity.{Validity}
use Rattle.fl_types.specs.Bits.{between}
use Rattle.fl_types.specs.Integers.{pattern_of}
use Rattle.fl_types.specs.Validities.{covers, is_valid_at, items_of}
use Rattle.fl_patches.specs.PatchMaps.{places_from, values_in}
use Rattle.std.proofs.lemmas.List.{take_all}
use Rattle.std.proofs.lemmas.List.FromFn.{map-range_with_len_more}
use Rattle.fl_patches.proofs.Sparse.{places-append, places_even, values-append}
use Rattle.fl_patches.proofs.Blocks.{between_append, exceptions_between, length-exceptions, take_between, take_to_block}
use Rattle.fl_column.proofs.ItemLaws.{length-items_of, null_item_read, valid_item_read}
use Rattle.fl_patches.specs.Exceptions.{bit_count, bits_of_item, exception, exceptions_of}
use Rattle.fl_patches.specs.PatchParts.{AreGathered, HasBlocks, counts_before}
use Rattle.fl_patches.proofs.BitCounts.{bit_count-le}
use Rattle.std.proofs.Common.{IsTrue, ◌/◌}
use Rattle.fl_column.specs.Chunks.{chunk_count}
use Rattle.fl_patches.specs.Widths.{NamesAll, block_width, width_at}
use Rattle.fl_patches.specs.declared.widths.Widths.{Widths}

-- an exception at a place
gathered_push : (places : List ℕ) (values : List ℤ) (before : List (Option ℤ)) (place : ℕ) (z : ℤ) → length before ≡ place → AreGathered places values before → AreGathered (places ++ place ∷ []) (values ++ z ∷ []) (before ++ Some z ∷ [])
gathered_push places values before place z len so =
    let at : 0 + length before ≡ place = omega arith in
    record {
      placed = rw (so.placed, ← at) (sym (places-append 0 before (Some z ∷ [])));
      valued = rw so.valued (sym (values-append before (Some z ∷ [])));
    }

-- the same, of the lists that were pushed to
pub gathered_pushed : {X : Type 0} (value : X → ℤ) (places places' : List ℕ) (values values' : List X) (before : List (Option ℤ)) (place : ℕ) (x : X) → places' ≡ places ++ place ∷ [] → values' ≡ values ++ x ∷ [] → length before ≡ place
    → AreGathered places (map value values) before → AreGathered places' (map value values') (before ++ Some (value x) ∷ [])
gathered_pushed value places places' values values' before place x e f len so =
    rw (e, f, map-append value values (x ∷ [])) (gathered_push places (map value values) before place (value x) len so)

-- ---- whether an item is an exception
cond_same : {A : Type 0} (b : Bool) (x : A) → cond b x x ≡ x
cond_same true x = refl
cond_same false x = refl

pub exception_null : (t : PType) (w : ℕ) (item : Option ℤ) → item ≡ None → exception t w item ≡ None
exception_null t w item e = rw e (cond_same (nat_lt w 0) None)

pub exception_few : (t : PType) (w : ℕ) (item : Option ℤ) → bits_of_item t item ≤ w → exception t w item ≡ None
exception_few t w item few = rw (le-ltb w (bits_of_item t item) few) refl

pub exception_many : (t : PType) (w : ℕ) (item : Option ℤ) → w < bits_of_item t item → exception t w item ≡ item
exception_many t w item many = rw (lt-ltb w (bits_of_item t item) many) refl

-- an item is its value, or null
item_cases : {X : Type 0} (value : X → ℤ) (v : Validity) (xs : List X) (i : ℕ) (x : X) → IsTrue (covers v (length xs)) → i < length xs → x ≡ get_or xs i x
    → (get_or (items_of v (map value xs)) i None ≡ Some (value x)) ⊎ (get_or (items_of v (map value xs)) i None ≡ None)
item_cases value v xs i x covered h read = elim (cases_Bool (is_valid_at v i)) [
  | inl here ↦ inl (valid_item_read value v xs i x covered h here read)
  | inr gone ↦ inr (null_item_read value v xs i covered h gone)
]

-- an item with no more bits than the width
exception_miss : {X : Type 0} (t : PType) (value : X → ℤ) (v : Validity) (xs : List X) (i w : ℕ) (x : X) → IsTrue (covers v (length xs)) → i < length xs → x ≡ get_or xs i x → bit_count (pattern_of t (value x)) ≤ w
    → exception t w (get_or (items_of v (map value xs)) i None) ≡ None
exception_miss t value v xs i w x covered h read few = elim (item_cases value v xs i x covered h read) [
  | inl some ↦ rw some (exception_few t w (Some (value x)) few)
  | inr none ↦ exception_null t w _ none
]

-- there is an item for each value
pub covered_values : {X : Type 0} (value : X → ℤ) (v : Validity) (xs : List X) → IsTrue (covers v (length xs)) → length (items_of v (map value xs)) ≡ length xs
covered_values value v xs covered = length-items_of v (map value xs) (rw length-map covered) ∙ length-map xs value

-- a slice of an array's values has as many bits as the array
pub covered_slice : {X : Type 0} (value : X → ℤ) (v w : Validity) (xs : List X) (slots : List ℤ) → map value xs ≡ slots → w ≡ v → IsTrue (covers v (length slots)) → IsTrue (covers w (length xs))
covered_slice value v w xs slots same valid covered = let len : length slots ≡ length xs = sym (ap length same) ∙ length-map xs value in rw (valid, ← len) covered

-- ---- a part of the items
no_places : {A : Type 0} (n : ℕ) (xs : List (Option A)) → ((i : ℕ) → i < length xs → get_or xs i None ≡ None) → (places_from n xs ≡ []) × (values_in xs ≡ [])
no_places n [] nothing = (refl, refl)
no_places n (None ∷ xs) nothing = no_places (n + 1) xs (λ i h. nothing (suc i) (omega arith))
no_places n (Some x ∷ xs) nothing = let first : Some x ≡ None = nothing 0 (omega arith) in absurd (cc)

-- a part without exceptions
pub gathered_nothing : (places : List ℕ) (values : List ℤ) (before part : List (Option ℤ)) → ((i : ℕ) → i < length part → get_or part i None ≡ None) → AreGathered places values before → AreGathered places values (before ++ part)
gathered_nothing places values before part nothing so = record {
  placed = so.placed ∙ sym (places-append 0 before part ∙ (ap (λ ys. places_from 0 before ++ ys) (no_places (0 + length before) part nothing).0 ∙ append-nil (places_from 0 before)));
  valued = so.valued ∙ sym (values-append before part ∙ (ap (λ ys. values_in before ++ ys) (no_places 0 part nothing).1 ∙ append-nil (values_in before)));
}

gathered_as : (places : List ℕ) (values : List ℤ) (xs ys : List (Option ℤ)) → xs ≡ ys → AreGathered places values xs → AreGathered places values ys
gathered_as places values xs ys e so = subst (λ zs. AreGathered places values zs) e so

-- no item of nulls alone is an exception
exception_gone : (t : PType) (w : ℕ) (zs : List ℤ) (i : ℕ) → exception t w (get_or (map (let null : ℤ → Option ℤ = λ z. None in null) zs) i None) ≡ None
exception_gone t w [] i = exception_null t w None refl
exception_gone t w (z ∷ zs) zero = exception_null t w None refl
exception_gone t w (z ∷ zs) (suc i) = exception_gone t w zs i

-- a part of nulls alone
pub gathered_nulls : (t : PType) (w : ℕ) (zs : List ℤ) (start end : ℕ) (places : List ℕ) (values : List ℤ) (before : List (Option ℤ)) → AreGathered places values before
    → AreGathered places values (before ++ map (exception t w) (between start end (map (λ z. None) zs)))
gathered_nulls t w zs start end places values before so =
    let null : ℤ → Option ℤ = λ z. None in
    let items : List (Option ℤ) = map null zs in
    gathered_nothing places values before (map (exception t w) (between start end items)) (λ i h.
    let within : i < length (between start end items) = omega (arith, length-map (between start end items) (exception t w)) in
    let short : i < end - start = omega (arith, length-take (end - start) (drop start items)) in
    let item : get_or (between start end items) i None ≡ get_or items (start + i) None = get_or-take (end - start) (drop start items) i None short ∙ get_or-drop start items i None in
    get_or-map (exception t w) (between start end items) i None None within ∙ (ap (exception t w) item ∙ exception_gone t w zs (start + i))) so

-- an item of a part, seen through its value
pub read_part : {X : Type 0} (value : X → ℤ) (xs : List X) (start n i : ℕ) → i < n → get_or (map value (take n (drop start xs))) i (pos 0) ≡ get_or (map value xs) (start + i) (pos 0)
read_part value xs start n i h =
    rw (← take-map, ← drop-map) (get_or-take n (drop start (map value xs)) i (pos 0) h ∙ get_or-drop start (map value xs) i (pos 0))

exception_part : {X : Type 0} (t : PType) (value : X → ℤ) (v : Validity) (xs : List X) (i w : ℕ) → IsTrue (covers v (length xs)) → i < length xs → bit_count (pattern_of t (get_or (map value xs) i (pos 0))) ≤ w
    → exception t w (get_or (items_of v (map value xs)) i None) ≡ None
exception_part t value v [] i w covered h few = absurd (omega arith)
exception_part t value v (x ∷ xs) i w covered h few =
    let read : get_or (x ∷ xs) i x ≡ get_or (x ∷ xs) i (get_or (x ∷ xs) i x) = get_or_default (x ∷ xs) i x (get_or (x ∷ xs) i x) h in
    let same : get_or (map value (x ∷ xs)) i (pos 0) ≡ value (get_or (x ∷ xs) i x) = get_or-map value (x ∷ xs) i x (pos 0) h in
    exception_miss t value v (x ∷ xs) i w (get_or (x ∷ xs) i x) covered h read (rw same at few)

-- a part whose patterns have together no more bits than the width
-- a part that begins where the one before it ends
pub gathered_on : (t : PType) (w : ℕ) (xs : List (Option ℤ)) (start from to : ℕ) (places places' : List ℕ) (values values' : List ℤ) (before : List (Option ℤ)) → start ≤ from → from ≤ to → from ≤ length xs → length before ≡ start
    → ((b : List (Option ℤ)) → length b ≡ from → AreGathered places values b → AreGathered places' values' (b ++ map (exception t w) (between from to xs)))
    → AreGathered places values (before ++ map (exception t w) (between start from xs)) → AreGathered places' values' (before ++ map (exception t w) (between start to xs))
gathered_on t w xs start from to places places' values values' before order order' room len step so =
    let first : List (Option ℤ) = map (exception t w) (between start from xs) in
    let second : List (Option ℤ) = map (exception t w) (between from to xs) in
    let whole : map (exception t w) (between start to xs) ≡ first ++ second = ap (map (exception t w)) (between_append xs start from to order order') ∙ map-append (exception t w) (between start from xs) (between from to xs) in
    let long : length first ≡ length (between start from xs) = length-map (between start from xs) (exception t w) in
    let taken : length (between start from xs) ≡ min (from - start) (length (drop start xs)) = length-take (from - start) (drop start xs) in
    let left : length (drop start xs) ≡ length xs - start = length-drop start xs in
    let all : length (before ++ first) ≡ length before + length first = length-append before first in
    rw (whole, ← append_assoc before first second) (step (before ++ first) (omega arith) so)

pub gathered_few : {X : Type 0} (t : PType) (value : X → ℤ) (v : Validity) (xs : List X) (start end w union : ℕ) (places : List ℕ) (values : List ℤ) (before : List (Option ℤ)) → IsTrue (covers v (length xs)) → start ≤ end → end ≤ length xs → union < 2 ^ 64
    → ((i : ℕ) → i < length (take (end - start) (drop start xs)) → pattern_of t (get_or (map value (take (end - start) (drop start xs))) i (pos 0)) ≤ union) → bit_count union ≤ w
    → AreGathered places values before → AreGathered places values (before ++ map (exception t w) (between start end (items_of v (map value xs))))
gathered_few {X} t value v xs start end w union places values before covered order room fits under few so =
    let items : List (Option ℤ) = items_of v (map value xs) in
    let count : length items ≡ length xs = length-items_of v (map value xs) (rw length-map covered) ∙ length-map xs value in
    gathered_nothing places values before (map (exception t w) (between start end items)) (λ i h.
    let within : i < end - start = omega (arith, length-map (between start end items) (exception t w), length-take (end - start) (drop start items)) in
    let at : start + i < length xs = omega arith in
    let item : get_or (between start end items) i None ≡ get_or items (start + i) None = get_or-take (end - start) (drop start items) i None within ∙ get_or-drop start items i None in
    let there : get_or (map (exception t w) (between start end items)) i None ≡ exception t w (get_or (between start end items) i None) = get_or-map (exception t w) (between start end items) i None None (omega (arith, length-take (end - start) (drop start items), length-drop start items)) in
    let small : bit_count (pattern_of t (get_or (map value xs) (start + i) (pos 0))) ≤ w =
    (let part : length (take (end - start) (drop start xs)) ≡ end - start = omega (arith, length-take (end - start) (drop start xs), length-drop start xs) in
    let below : pattern_of t (get_or (map value (take (end - start) (drop start xs))) i (pos 0)) ≤ union = under i (omega arith) in
    let same : get_or (map value (take (end - start) (drop start xs))) i (pos 0) ≡ get_or (map value xs) (start + i) (pos 0) = read_part value xs start (end - start) i within in
    le_trans (bit_count-le _ union (rw (← same) below) fits) few) in
    there ∙ (ap (exception t w) item ∙ exception_part t value v xs (start + i) w covered at small)) so

-- ---- blocks
-- a block more
blocks_more : (t : PType) (width_at : ℕ → ℕ) (w : ℕ) (items : List (Option ℤ)) (block end : ℕ) (places places' : List ℕ) (values values' : List ℤ) → 1024 * block < length items → end ≡ 1024 * block + min (length items - 1024 * block) 1024
    → ((i : ℕ) → 1024 * block ≤ i → i < 1024 * (block + 1) → width_at i ≡ w)
    → ((before : List (Option ℤ)) → length before ≡ 1024 * block → AreGathered places values before → AreGathered places' values' (before ++ map (exception t w) (between (1024 * block) end items)))
    → AreGathered places values (take (1024 * block) (exceptions_of t width_at items)) → AreGathered places' values' (take (1024 * (block + 1)) (exceptions_of t width_at items))
blocks_more t width_at w items block end places places' values values' begun ends same step so =
    let all : List (Option ℤ) = exceptions_of t width_at items in
    let start = 1024 * block in
    let count : length all ≡ length items = length-exceptions t width_at items in
    let before : length (take start all) ≡ start = omega (arith, length-take start all) in
    let part : map (exception t w) (between start end items) ≡ between start end all = sym (exceptions_between t width_at w items start end (λ i h l. same i h (omega arith))) in
    let joined : take start all ++ map (exception t w) (between start end items) ≡ take end all = ap (λ ys. take start all ++ ys) part ∙ sym (take_between all start end (omega arith)) in
    let whole : take end all ≡ take (1024 * (block + 1)) all = take_to_block all block end (omega arith) (ends ∙ ap (λ n. start + min (n - start) 1024) (sym count)) in
    gathered_as places' values' _ _ (joined ∙ whole) (step (take start all) before so)

-- an offset more
counts_more : (items : List (Option ℤ)) (block had : ℕ) (offsets offsets' : List ℕ) → had ≡ length (values_in (take (1024 * block) items)) → offsets' ≡ offsets ++ had ∷ [] → offsets ≡ counts_before items block → offsets' ≡ counts_before items (block + 1)
unfolding counts_before
counts_more items block had offsets offsets' is added so =
    rw (added, so, is) (sym (map-range_with_len_more (λ k. length (values_in (take (1024 * k) items))) 0 block block (zero-add block)))

-- before the first block
pub blocks_none : (places : List ℕ) (values : List ℤ) (offsets : List ℕ) (items : List (Option ℤ)) → AreGathered places values [] → offsets ≡ [] → HasBlocks places values offsets items 0
unfolding counts_before
blocks_none places values offsets items so none = record { gathered = so; counted = none }

-- a block and its offset more
pub blocks_pushed : {X : Type 0} (t : PType) (value : X → ℤ) (v : Validity) (xs : List X) (width_at : ℕ → ℕ) (w block start end had : ℕ) (places places' : List ℕ) (values values' : List ℤ) (offsets offsets' : List ℕ) → IsTrue (covers v (length xs)) → 1024 * block < length xs → start ≡ 1024 * block → end ≡ min (1024 * (block + 1)) (length xs)
    → had ≡ length places → offsets' ≡ offsets ++ had ∷ []
    → ((i : ℕ) → 1024 * block ≤ i → i < 1024 * (block + 1) → width_at i ≡ w)
    → ((before : List (Option ℤ)) → length before ≡ start → AreGathered places values before → AreGathered places' values' (before ++ map (exception t w) (between start end (items_of v (map value xs)))))
    → HasBlocks places values offsets (exceptions_of t width_at (items_of v (map value xs))) block → HasBlocks places' values' offsets' (exceptions_of t width_at (items_of v (map value xs))) (block + 1)
blocks_pushed t value v xs width_at w block start end had places places' values values' offsets offsets' covered begun start_is end_is is added same step so =
    let items : List (Option ℤ) = items_of v (map value xs) in
    let all : List (Option ℤ) = exceptions_of t width_at items in
    let count : length items ≡ length xs = covered_values value v xs covered in
    let steps_from : ℕ → Type 0 = λ from. (before : List (Option ℤ)) → length before ≡ from → AreGathered places values before → AreGathered places' values' (before ++ map (exception t w) (between from end (items_of v (map value xs)))) in
    record {
      gathered = blocks_more t width_at w items block end places places' values values' (omega arith) (omega arith) same (subst steps_from start_is step) so.gathered;
      counted = counts_more all block had offsets offsets' (is ∙ (ap length so.gathered.placed ∙ sym (places_even 0 (take (1024 * block) all)))) added so.counted;
    }

-- the width of a place in a block
pub block_of_place : (widths : List ℕ) (block w i : ℕ) → w ≡ get_or widths block 0 → 1024 * block ≤ i → i < 1024 * (block + 1) → get_or widths (i / 1024) 0 ≡ w
block_of_place widths block w i is low high = let same : i / 1024 ≡ block = omega arith in rw same (sym is)

-- the same of widths as the code names them
pub place_in_block : (widths : Widths) (block w i : ℕ) → w ≡ block_width widths block → 1024 * block ≤ i → i < 1024 * (block + 1) → width_at widths i ≡ w
place_in_block widths block w i is low high = let same : i / 1024 ≡ block = omega arith in rw same (sym is)

-- so are those of a slice of an array's values
pub named_slice : {X : Type 0} (value : X → ℤ) (widths : Widths) (xs : List X) (slots : List ℤ) → map value xs ≡ slots → NamesAll widths (chunk_count (length slots)) → NamesAll widths (chunk_count (length xs))
named_slice value widths xs slots same all = let len : length slots ≡ length xs = sym (ap length same) ∙ length-map xs value in subst (λ n. NamesAll widths (chunk_count n)) len all

-- the exceptions of all blocks of an array
pub all_gathered : (t : PType) (v : Validity) (slots : List ℤ) (width_at : ℕ → ℕ) (places : List ℕ) (values : List ℤ) (offsets : List ℕ) → IsTrue (covers v (length slots))
    → HasBlocks places values offsets (exceptions_of t width_at (items_of v slots)) (chunk_count (length slots)) → AreGathered places values (exceptions_of t width_at (items_of v slots))
all_gathered t v slots width_at places values offsets covered so =
    let all : List (Option ℤ) = exceptions_of t width_at (items_of v slots) in
    gathered_as places values _ all (take_all (1024 * chunk_count (length slots)) all (omega (arith, length-exceptions t width_at (items_of v slots), length-items_of v slots covered))) so.gathered
