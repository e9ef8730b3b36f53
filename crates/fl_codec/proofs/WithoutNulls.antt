-- Loops over integers none of which is null.
use Rattle.std.proofs.Common.{◌≡◌, ℕ, ℤ, pos, ◌+◌, ◌-◌, ◌-ℤ◌, ◌+ℤ◌, ◌<◌, ◌⊎◌, List, [], ◌∷◌, ◌++◌, length, Ok, Err, subst, map, take, drop, get_or, set, Option, Some, None, option_map, inl, inr, refl, ap, sym, ◌∙◌, arith, ◌/◌, length-take, length-drop, ◌≤◌, ◌*◌}
use Rattle.std.specs.Prelude.{IfOk, Result}
use Rattle.std.proofs.lemmas.List.{get_or-map, get_or_default, get_or-set_other, get_or-set_same, length-map, map-set, same_lists, take-map, drop-map, take_all, take_at, take-append-le, append_assoc, get_or_append_left, get_or-append_right, get_or-take, get_or-drop, length-append, map-append}
use Rattle.std.proofs.Math.Seq.{take-add}
use Rattle.std.proofs.lemmas.Bool.{cases_eq, cases_lt}
use Rattle.fl_types.specs.declared.dtype.PType.{PType}
use Rattle.fl_types.specs.declared.validity.Validity.{Validity}
use Rattle.fl_types.specs.declared.validity.Validity.TheVariants as valid
use Rattle.fl_types.specs.Bits.{between, tabulate}
use Rattle.fl_types.specs.Integers.{wrap}
use Rattle.fl_types.specs.Validities.{items_of}
use Rattle.std.proofs.lemmas.List.FromFn.{fill_by_all}
use Rattle.fl_types.proofs.BitLists.{same_tables}
use Rattle.fl_codec.proofs.ForwardFillLaws.{table_append}
use Rattle.fl_codec.specs.Chunks.{chunk}
use Rattle.fl_codec.specs.FoRColumns.{chunked_sums, least_valid, min_valid, minus_reference, valid_items}
use Rattle.fl_codec.proofs.FoRLaws.{IsLeast, find-least, least_between_more, valid_none}
use Rattle.fl_codec.proofs.ReferenceLaws.{between_whole, get_or-table, length-table}

-- the items under no null
abbrev pub all_valid : List ℤ → List (Option ℤ)
all_valid zs = map (λ z. Some z) zs

-- no null stands under these validities
pub full_items : (v : Validity) (zs : List ℤ) → (v ≡ valid.NonNullable) ⊎ (v ≡ valid.AllValid) → items_of v zs ≡ all_valid zs
full_items v zs (inl e) = rw e refl
full_items v zs (inr e) = rw e refl

-- ---- the least
pub item_read : {X : Type 0} (value : X → ℤ) (xs : List X) (i : ℕ) (x : X) → i < length xs → x ≡ get_or xs i x → get_or (all_valid (map value xs)) i None ≡ Some (value x)
item_read value xs i x h is =
    get_or-map (λ z. Some z) (map value xs) i (value x) None (rw length-map h) ∙ ap (λ z. Some z) (get_or-map value xs i x (value x) h ∙ ap value (sym is))

pub least_begun : {X : Type 0} (value : X → ℤ) (xs : List X) (x : X) → 0 < length xs → x ≡ get_or xs 0 x → IsLeast (Some (value x)) (valid_items (between 0 1 (all_valid (map value xs))))
least_begun value xs x h is =
    let more = least_between_more None (all_valid (map value xs)) 0 0 (omega arith) (rw (length-map, length-map) h) (valid_none 0 (all_valid (map value xs))) in
    rw (item_read value xs 0 x h is) at more

pub least_next : {X : Type 0} (value : X → ℤ) (xs : List X) (least next : ℤ) (x : X) (i : ℕ) → i < length xs → x ≡ get_or xs i x → Some next ≡ min_valid (Some least) (Some (value x))
    → IsLeast (Some least) (valid_items (between 0 i (all_valid (map value xs)))) → IsLeast (Some next) (valid_items (between 0 (i + 1) (all_valid (map value xs))))
least_next value xs least next x i h is lesser_is before =
    let more = least_between_more (Some least) (all_valid (map value xs)) 0 i (omega arith) (rw (length-map, length-map) h) before in
    subst (λ (best : Option ℤ). IsLeast best (valid_items (between 0 (i + 1) (all_valid (map value xs))))) (sym lesser_is) (rw (item_read value xs i x h is) at more)

pub least_found : {X : Type 0} (value : X → ℤ) (xs : List X) (least : ℤ) (i : ℕ) → i ≡ length xs → IsLeast (Some least) (valid_items (between 0 i (all_valid (map value xs)))) → Some least ≡ least_valid (all_valid (map value xs))
least_found value xs least i e found =
    let all = all_valid (map value xs) in
    let long : length all ≡ i = length-map (map value xs) (λ z. Some z) ∙ (length-map xs value ∙ sym e) in
    let whole = between_whole all i long in
    sym (find-least (Some least) (valid_items all) (rw whole at found))

-- the least of a part
pub all_turned : {X : Type 0} (value : X → ℤ) (f : ℤ → ℤ) (xs : List X) → all_valid (map (λ x. f (value x)) xs) ≡ map (option_map f) (all_valid (map value xs))
all_turned value f [] = refl
all_turned value f (x ∷ xs) = ap (λ ys. Some (f (value x)) ∷ ys) (all_turned value f xs)

pub least_of_part : {X : Type 0} (value : X → ℤ) (f : ℤ → ℤ) (v : Validity) (xs : List X) (start end : ℕ) → items_of v (map value xs) ≡ all_valid (map value xs)
    → least_valid (all_valid (map (λ x. f (value x)) (take (end - start) (drop start xs)))) ≡ least_valid (map (option_map f) (between start end (items_of v (map value xs))))
least_of_part value f v xs start end e =
    let same : all_valid (map value (take (end - start) (drop start xs))) ≡ between start end (all_valid (map value xs)) = simp (take-map, drop-map) in
    rw e (ap least_valid (all_turned value f (take (end - start) (drop start xs)) ∙ ap (map (option_map f)) same))

-- ---- what a loop writes
pub value_filled : {X : Type 0} (value : X → ℤ) (item : ℕ → ℤ) (xs : List X) (i : ℕ) (x : X) → i < length xs → ((j : ℕ) → j < i → get_or (map value xs) j (pos 0) ≡ item j) → value x ≡ item i
    → (j : ℕ) → j < i + 1 → get_or (map value (set xs i x)) j (pos 0) ≡ item j
value_filled value item xs i x h done e j below =
    elim (cases_eq j i) [
      | inl same ↦ rw (map-set, same) (get_or-set_same (map value xs) i (value x) (pos 0) (rw length-map h) ∙ e)
      | inr other ↦ rw map-set (get_or-set_other (map value xs) i j (value x) (pos 0) other ∙ done j (omega arith))
    ]

-- an element that was read
pub value_of_read : {X : Type 0} (value : X → ℤ) (xs : List X) (i : ℕ) (x : X) → i < length xs → x ≡ get_or xs i x → value x ≡ get_or (map value xs) i (pos 0)
value_of_read value xs i x h is = ap value is ∙ sym (get_or-map value xs i x (pos 0) h)

pub all_filled : {X Y : Type 0} (value : X → ℤ) (other : Y → ℤ) (f : ℤ → ℤ) (xs : List X) (ys : List Y) → length xs ≡ length ys → ((j : ℕ) → j < length ys → get_or (map value xs) j (pos 0) ≡ f (get_or (map other ys) j (pos 0))) → map value xs ≡ map f (map other ys)
all_filled value other f xs ys long done =
    let left : length (map value xs) ≡ length ys = length-map xs value ∙ long in
    let middle : length (map other ys) ≡ length ys = length-map ys other in
    let right : length (map f (map other ys)) ≡ length ys = length-map (map other ys) f ∙ middle in
    same_lists (map value xs) (map f (map other ys)) (left ∙ sym right)
    (λ k d h. get_or_default (map value xs) k d (pos 0) h ∙ (done k (omega arith) ∙ sym (get_or-map f (map other ys) k (pos 0) d (omega arith))))

-- what a vector holds whose elements were all written
pub vec_written : {X : Type 0} (n : ℕ) (new old : List X) → length new ≡ n → take n (new ++ drop (length new) old) ≡ new
vec_written n new old e = take-append-le n new (drop (length new) old) (omega arith) ∙ take_all n new (omega arith)

-- items that are no nulls, less a reference
minus_all : (ptype : PType) (reference : ℤ) (zs : List ℤ) → map (λ z. wrap ptype (z -ℤ reference)) zs ≡ map (minus_reference ptype reference) (all_valid zs)
minus_all ptype reference [] = refl
minus_all ptype reference (z ∷ zs) = ap (λ ys. wrap ptype (z -ℤ reference) ∷ ys) (minus_all ptype reference zs)

-- the slots that were made of items that are no nulls
pub full_differences : {X : Type 0} (value : X → ℤ) (ptype : PType) (reference : ℤ) (v : Validity) (xs new : List X) → (v ≡ valid.NonNullable) ⊎ (v ≡ valid.AllValid) → map value new ≡ map (λ z. wrap ptype (z -ℤ reference)) (map value xs)
    → map value new ≡ map (minus_reference ptype reference) (items_of v (map value xs))
full_differences value ptype reference v xs new full made = made ∙ (minus_all ptype reference (map value xs) ∙ ap (map (minus_reference ptype reference)) (sym (full_items v (map value xs) full)))

-- the same, where there are any
pub if_made : {V : Type 0} {E : Type 0} (P Q : V → Type 0) (r : Result V E) → IfOk r P → ((v : V) → P v → Q v) → IfOk r Q
if_made P Q (Ok v) h to = to v h
if_made P Q (Err e) h to = tt

-- ---- chunks
-- what a loop has written, and one more part
pub part_written : {X : Type 0} (value : X → ℤ) (item : ℕ → ℤ) (items new rest : List X) (from to i : ℕ) → from ≤ length items → length new ≡ to - from → ((k : ℕ) → k < from → get_or (map value items) k (pos 0) ≡ item k)
    → ((k : ℕ) → k < to - from → get_or (map value new) k (pos 0) ≡ item (from + k)) → i < to → get_or (map value (take from items ++ (new ++ rest))) i (pos 0) ≡ item i
part_written value item items new rest from to i room long done more h =
    let front : length (take from items) ≡ from = let taken = length-take from items in omega arith in
    let front_too : length (map value (take from items)) ≡ from = length-map (take from items) value ∙ front in
    let whole : map value (take from items ++ (new ++ rest)) ≡ map value (take from items) ++ (map value new ++ map value rest) = map-append value (take from items) (new ++ rest) ∙ ap (λ ys. map value (take from items) ++ ys) (map-append value new rest) in
    ap (λ ys. get_or ys i (pos 0)) whole ∙ elim (cases_lt i from) [
      | inl before ↦
          get_or_append_left (map value (take from items)) (map value new ++ map value rest) (pos 0) i (omega arith)
          ∙ (ap (λ ys. get_or ys i (pos 0)) (sym (take-map value from items)) ∙ (get_or-take from (map value items) i (pos 0) before ∙ done i before))
      | inr after ↦
          let inside : i - from < length (map value new) = let same = length-map new value in omega arith in
          let place : from + (i - from) ≡ i = omega arith in
          get_or-append_right (map value (take from items)) (map value new ++ map value rest) from i (pos 0) front_too after
          ∙ (get_or_append_left (map value new) (map value rest) (pos 0) (i - from) inside ∙ (more (i - from) (omega arith) ∙ ap item place))
    ]

-- an element behind a part that was written
part_behind : {X : Type 0} (value : X → ℤ) (n i : ℕ) (xs : List X) → n ≤ i → get_or (map value xs) i (pos 0) ≡ get_or (map value (drop n xs)) (i - n) (pos 0)
part_behind value n i xs h =
    let place : n + (i - n) ≡ i = omega arith in
    ap (λ k. get_or (map value xs) k (pos 0)) (sym place) ∙ (sym (get_or-drop n (map value xs) (i - n) (pos 0)) ∙ ap (λ ys. get_or ys (i - n) (pos 0)) (drop-map value n xs))

pub part_left : {X : Type 0} (value : X → ℤ) (before after : List X) (n i : ℕ) → drop n after ≡ drop n before → n ≤ i → get_or (map value after) i (pos 0) ≡ get_or (map value before) i (pos 0)
part_left value before after n i same h = part_behind value n i after h ∙ (ap (λ xs. get_or (map value xs) (i - n) (pos 0)) same ∙ sym (part_behind value n i before h))

-- an element of a part that was mapped
pub part_mapped : {X : Type 0} (value : X → ℤ) (f : ℤ → ℤ) (xs new : List X) (from to k : ℕ) → to ≤ length xs → k < to - from → map value new ≡ map f (map value (take (to - from) (drop from xs))) → get_or (map value new) k (pos 0) ≡ f (get_or (map value xs) (from + k) (pos 0))
part_mapped value f xs new from to k room h made =
    let rest = length-drop from xs in
    let taken = length-take (to - from) (drop from xs) in
    let long = length-map (take (to - from) (drop from xs)) value in
    ap (λ ys. get_or ys k (pos 0)) made
    ∙ (get_or-map f (map value (take (to - from) (drop from xs))) k (pos 0) (pos 0) (omega arith)
    ∙ ap f (ap (λ ys. get_or ys k (pos 0)) (sym (take-map value (to - from) (drop from xs)) ∙ ap (take (to - from)) (sym (drop-map value from xs)))
    ∙ (get_or-take (to - from) (drop from (map value xs)) k (pos 0) h ∙ get_or-drop from (map value xs) k (pos 0))))

-- the sums that were made, chunk by chunk
pub sums_made : {X : Type 0} (value : X → ℤ) (ptype : PType) (references : List ℤ) (offset : ℕ) (xs new : List X) → length new ≡ length xs
    → ((j : ℕ) → j < length xs → get_or (map value new) j (pos 0) ≡ wrap ptype (get_or (map value xs) j (pos 0) +ℤ get_or references ((offset + j) / 1024) (pos 0)))
    → map value new ≡ chunked_sums ptype references offset (map value xs)
sums_made value ptype references offset xs new long made =
    let slot : ℕ → ℤ = λ i. wrap ptype (get_or (map value xs) i (pos 0) +ℤ get_or references ((offset + i) / 1024) (pos 0)) in
    let count : length (map value xs) ≡ length xs = length-map xs value in
    let left : length (map value new) ≡ length xs = length-map new value ∙ long in
    let right : length (tabulate slot (length (map value xs))) ≡ length xs = length-table slot (length (map value xs)) ∙ count in
    same_lists (map value new) (tabulate slot (length (map value xs))) (left ∙ sym right)
    (λ k d h.
    let inside : k < length xs = omega arith in
    get_or_default (map value new) k d (pos 0) h ∙ (made k inside ∙ sym (get_or-table slot (length (map value xs)) k d (omega arith))))

-- ---- slots that are added
-- what a vector holds that grew, where the new part was written
pub grown_written : {X : Type 0} (value : X → ℤ) (mapped : List ℤ) (n start end : ℕ) (old fill made new rest tail : List X) → start ≡ length old → start ≤ end → n ≡ end → length new ≡ end - start → made ≡ take end old ++ fill → map value new ≡ mapped
    → map value (take n ((take start made ++ (new ++ rest)) ++ tail)) ≡ map value old ++ mapped
grown_written value mapped n start end old fill made new rest tail start_is order n_is size made_is new_is =
    let whole : take end old ≡ old = take_all end old (omega arith) in
    let front : take start made ≡ old = ap (take start) (made_is ∙ ap (λ xs. xs ++ fill) whole) ∙ take_at old fill start (sym start_is) in
    let joined : (old ++ (new ++ rest)) ++ tail ≡ (old ++ new) ++ (rest ++ tail) = simp append_assoc in
    let long = length-append old new in
    ap (λ xs. map value (take n ((xs ++ (new ++ rest)) ++ tail))) front
    ∙ (ap (λ xs. map value (take n xs)) joined ∙ (ap (map value) (take_at (old ++ new) (rest ++ tail) n (omega arith)) ∙ (map-append value old new ∙ ap (λ ys. map value old ++ ys) new_is)))

-- the first chunks and the next one
pub chunks_next : {X : Type 0} (value : X → ℤ) (f : ℤ → ℤ) (xs part old new : List X) (k : ℕ) → part ≡ chunk k xs → map value old ≡ map f (map value (take (1024 * k) xs)) → map value new ≡ map value old ++ map f (map value part)
    → map value new ≡ map f (map value (take (1024 * (k + 1)) xs))
chunks_next value f xs part old new k part_is before added =
    let size : 1024 * (k + 1) - 1024 * k ≡ 1024 = omega arith in
    let sum : 1024 * (k + 1) ≡ 1024 * k + 1024 = omega arith in
    let next : chunk k xs ≡ take 1024 (drop (1024 * k) xs) = ap (λ (n : ℕ). take n (drop (1024 * k) xs)) size in
    let both : take (1024 * (k + 1)) xs ≡ take (1024 * k) xs ++ part = ap (λ (n : ℕ). take n xs) sum ∙ (take-add (1024 * k) 1024 xs ∙ ap (λ ys. take (1024 * k) xs ++ ys) (sym (part_is ∙ next))) in
    let values : map f (map value (take (1024 * (k + 1)) xs)) ≡ map f (map value (take (1024 * k) xs)) ++ map f (map value part) = ap (λ ys. map f (map value ys)) both ∙ (ap (map f) (map-append value (take (1024 * k) xs) part) ∙ map-append f (map value (take (1024 * k) xs)) (map value part)) in
    rw (values, ← before) added

-- slots that a table gives, and those that are added behind them
pub tables_join : (slot added : ℕ → ℤ) (start end n : ℕ) (old new : List ℤ) → start ≤ end → n ≡ end - start → ((i : ℕ) → start ≤ i → i < end → slot i ≡ added (i - start)) → old ≡ tabulate slot start → new ≡ old ++ tabulate added n → new ≡ tabulate slot end
tables_join slot added start end n old new order size same before is =
    let last : tabulate added n ≡ tabulate (λ j. slot (start + j)) n = same_tables added (λ j. slot (start + j)) n (λ j h.
    let place : start + j - start ≡ j = omega arith in
    sym (same (start + j) (omega arith) (omega arith) ∙ ap added place)) in
    let sum : start + n ≡ end = omega arith in
    is ∙ (ap (λ xs. xs ++ tabulate added n) before ∙ (ap (λ xs. tabulate slot start ++ xs) last ∙ (table_append slot start n ∙ ap (tabulate slot) sum)))

-- a table of a list's items
pub table_of_items : {A : Type 0} (f : A → ℤ) (xs : List A) (n : ℕ) (d : A) → n ≡ length xs → tabulate (λ i. f (get_or xs i d)) n ≡ map f xs
table_of_items f xs n d is =
    let slot : ℕ → ℤ = λ i. f (get_or xs i d) in
    sym (fill_by_all slot (map f xs) n (f d) (length-map xs f ∙ sym is) (λ i h. get_or-map f xs i d (f d) (omega arith)))
