-- Parts of lists.
use Rattle.std.proofs.Common.{◌≡◌, ℕ, zero, suc, ◌+◌, ◌-◌, ◌<◌, ◌≤◌, ℤ, pos, List, [], ◌∷◌, ◌++◌, length, map, take, drop, get_or, replicate, refl, ap, sym, ◌∙◌, arith, inl, inr, append_assoc, length-append, length-take, length-drop}
use Rattle.std.proofs.lemmas.Bool.{cases_lt}
use Rattle.std.proofs.lemmas.List.{take-map, drop-map, get_or-take, get_or-drop, take_all, take-append-le, length-map, get_or-map, length-replicate, map-append, get_or_append_left, get_or-append_right, get_or-append-add}
use Rattle.std.proofs.Math.Seq.{take-append_seam}
use Rattle.fl_types.specs.declared.dtype.PType.{PType}
use Rattle.fl_types.specs.Integers.{pattern_of}
use Rattle.fl_types.specs.Bits.{tabulate}
use Rattle.fl_types.proofs.BitLists.{same_tables, table_between}
use Rattle.std.proofs.lemmas.List.FromFn.{fill_by_all}
use Rattle.fl_bitpacking.specs.Blocks.{pattern_in, value_at}

take_front : {X : Type 0} (b s : ℕ) (xs ys : List X) → b ≤ s → s ≤ length xs → take b (take s xs ++ ys) ≡ take b xs
take_front zero s xs ys h k = refl
take_front (suc b) zero xs ys h k = absurd (omega arith)
take_front (suc b) (suc s) [] ys h k = absurd (omega arith)
take_front (suc b) (suc s) (x ∷ xs) ys h k = ap (λ zs. x ∷ zs) (take_front b s xs ys (omega arith) (omega arith))

-- a part before what was written
pub between_front : {X : Type 0} (a b s : ℕ) (xs ys : List X) → b ≤ s → s ≤ length xs → take (b - a) (drop a (take s xs ++ ys)) ≡ take (b - a) (drop a xs)
between_front zero b s xs ys h k = let whole : b - 0 ≡ b = omega arith in rw whole (take_front b s xs ys h k)
between_front (suc a) zero s xs ys h k = let none : 0 - suc a ≡ 0 = omega arith in rw none refl
between_front (suc a) (suc b) zero xs ys h k = absurd (omega arith)
between_front (suc a) (suc b) (suc s) [] ys h k = absurd (omega arith)
between_front (suc a) (suc b) (suc s) (x ∷ xs) ys h k = let less : suc b - suc a ≡ b - a = omega arith in rw less (between_front a b s xs ys (omega arith) (omega arith))

after_front : {X : Type 0} (s : ℕ) (xs ys : List X) → s ≤ length xs → drop s (take s xs ++ ys) ≡ ys
after_front zero xs ys h = refl
after_front (suc s) [] ys h = absurd (omega arith)
after_front (suc s) (x ∷ xs) ys h = after_front s xs ys (omega arith)

-- the part that was written
pub part_read : {X : Type 0} (s e : ℕ) (xs new rest : List X) → s ≤ length xs → length new ≡ e - s → take (e - s) (drop s (take s xs ++ (new ++ rest))) ≡ new
part_read s e xs new rest h long =
    ap (take (e - s)) (after_front s xs (new ++ rest) h) ∙ (take-append-le (e - s) new rest (omega arith) ∙ take_all (e - s) new (omega arith))

-- a part of a list that was kept and grown
pub grown_front : {X : Type 0} (a b n : ℕ) (xs ys : List X) → b ≤ length xs → length xs ≤ n → take (b - a) (drop a (take n xs ++ ys)) ≡ take (b - a) (drop a xs)
grown_front a b n xs ys h k =
    ap (λ zs. take (b - a) (drop a (zs ++ ys))) (take_all n xs k ∙ sym (take_all (length xs) xs (omega arith))) ∙ between_front a b (length xs) xs ys h (omega arith)

-- the patterns of a chunk are those of the whole
pub chunk_pattern : {X : Type 0} (value : X → ℤ) (ptype : PType) (xs : List X) (a q : ℕ) → q < 1024 → pattern_in ptype (map value (take 1024 (drop a xs))) q ≡ pattern_in ptype (map value xs) (a + q)
unfolding pattern_in
chunk_pattern value ptype xs a q h = ap (pattern_of ptype)
    (ap (λ ys. get_or ys q (pos 0)) (sym (take-map value 1024 (drop a xs)) ∙ ap (take 1024) (sym (drop-map value a xs)))
    ∙ (get_or-take 1024 (drop a (map value xs)) q (pos 0) h ∙ get_or-drop a (map value xs) q (pos 0)))

-- integers of which a part is written
pub part_written : {X : Type 0} (value : X → ℤ) (item : ℕ → ℤ) (items new rest : List X) (from to i : ℕ) → from ≤ length items → length new ≡ to - from
    → ((k : ℕ) → k < from → value_at value items k ≡ item k) → ((k : ℕ) → k < to - from → value_at value new k ≡ item (from + k)) → i < to
    → value_at value (take from items ++ (new ++ rest)) i ≡ item i
unfolding value_at
part_written value item items new rest from to i room long done more h =
    let front : length (take from items) ≡ from = let taken = length-take from items in omega arith in
    let front_too : length (map value (take from items)) ≡ from = length-map (take from items) value ∙ front in
    let whole : map value (take from items ++ (new ++ rest)) ≡ map value (take from items) ++ (map value new ++ map value rest) = map-append value (take from items) (new ++ rest) ∙ ap (λ ys. map value (take from items) ++ ys) (map-append value new rest) in
    ap (λ ys. get_or ys i (pos 0)) whole ∙ elim (cases_lt i from) [
      | inl before ↦
          get_or_append_left (map value (take from items)) (map value new ++ map value rest) (pos 0) i (omega arith)
          ∙ (ap (λ ys. get_or ys i (pos 0)) (sym (take-map value from items)) ∙ (get_or-take from (map value items) i (pos 0) before ∙ done i before))
      | inr after ↦
          let inside : i - from < length (map value new) = let same = length-map new value in omega arith in
          let place : from + (i - from) ≡ i = omega arith in
          get_or-append_right (map value (take from items)) (map value new ++ map value rest) from i (pos 0) front_too after
          ∙ (get_or_append_left (map value new) (map value rest) (pos 0) (i - from) inside ∙ (more (i - from) (omega arith) ∙ ap item place))
    ]

-- an integer of a part
pub value_part : {X : Type 0} (value : X → ℤ) (xs : List X) (a n i : ℕ) → i < n → value_at value (take n (drop a xs)) i ≡ value_at value xs (a + i)
unfolding value_at
value_part value xs a n i h =
    ap (λ ys. get_or ys i (pos 0)) (sym (take-map value n (drop a xs)) ∙ ap (take n) (sym (drop-map value a xs)))
    ∙ (get_or-take n (drop a (map value xs)) i (pos 0) h ∙ get_or-drop a (map value xs) i (pos 0))

-- what a vector holds whose elements were all written
pub vec_written : {X : Type 0} (n : ℕ) (new old : List X) → length new ≡ n → take n (new ++ drop (length new) old) ≡ new
vec_written n new old e = take-append-le n new (drop (length new) old) (omega arith) ∙ take_all n new (omega arith)

-- what a vector holds that was filled up from its old length to an end, and whose new elements were all written
pub vec_grown : {X : Type 0} (len end from count : ℕ) (x : X) (old row new rest tail : List X) → count ≡ length old → from ≡ count → count ≤ end → len ≡ end → row ≡ take end old ++ replicate (end - count) x
    → length new ≡ length (take (length row - from) (drop from row)) → take len ((take from row ++ (new ++ rest)) ++ tail) ≡ old ++ new
vec_grown len end from count x old row new rest tail count_is from_is order len_is row_is kept =
    let more = replicate (end - count) x in
    let is : row ≡ old ++ more = row_is ∙ ap (λ xs. xs ++ more) (take_all end old (omega arith)) in
    let long : length row ≡ end = let sum = length-append old more in let added = length-replicate (end - count) x in omega (arith, ap length is) in
    let written : length new ≡ end - count = let taken = length-take (length row - from) (drop from row) in let others = length-drop from row in omega arith in
    let old_long : from ≡ length old = from_is ∙ count_is in
    let front : take from row ≡ old = rw (is, old_long) (take-append_seam old more) in
    let size : len ≡ length (old ++ new) = let sum = length-append old new in omega arith in
    let apart : (old ++ (new ++ rest)) ++ tail ≡ (old ++ new) ++ (rest ++ tail) = simp append_assoc in
    rw (front, apart, size) (take-append_seam (old ++ new) (rest ++ tail))

-- an integer before those that were added
pub value_before : {X : Type 0} (value : X → ℤ) (old new : List X) (i : ℕ) → i < length old → value_at value (old ++ new) i ≡ value_at value old i
unfolding value_at
value_before value old new i h =
    let inside : i < length (map value old) = let same = length-map old value in omega arith in
    ap (λ ys. get_or ys i (pos 0)) (map-append value old new) ∙ get_or_append_left (map value old) (map value new) (pos 0) i inside

-- an integer that was added
pub value_added : {X : Type 0} (value : X → ℤ) (old new : List X) (i : ℕ) → value_at value (old ++ new) (length old + i) ≡ value_at value new i
unfolding value_at
value_added value old new i =
    let place : length old + i ≡ length (map value old) + i = let same = length-map old value in omega arith in
    ap (λ ys. get_or ys (length old + i) (pos 0)) (map-append value old new) ∙ (ap (λ k. get_or (map value old ++ map value new) k (pos 0)) place ∙ get_or-append-add (map value old) (map value new) i (pos 0))

-- the integers between two places, by what each of them is
pub integers_between : {X : Type 0} (value : X → ℤ) (item : ℕ → ℤ) (xs : List X) (from to : ℕ) → from ≤ to → to ≤ length xs
    → ((k : ℕ) → k < to - from → value_at value xs (from + k) ≡ item k) → map value (take (to - from) (drop from xs)) ≡ tabulate item (to - from)
unfolding value_at
integers_between value item xs from to order room each =
    let size : length (map value xs) ≡ length xs = length-map xs value in
    let part : map value (take (to - from) (drop from xs)) ≡ take (to - from) (drop from (map value xs)) = sym (take-map value (to - from) (drop from xs)) ∙ ap (take (to - from)) (sym (drop-map value from xs)) in
    part ∙ (sym (table_between (map value xs) from to (pos 0) order (rw size room)) ∙ same_tables (λ k. get_or (map value xs) (from + k) (pos 0)) item (to - from) each)

-- all integers, by what each of them is
pub integers_all : {X : Type 0} (value : X → ℤ) (item : ℕ → ℤ) (xs : List X) (n : ℕ) → length xs ≡ n → ((i : ℕ) → i < n → value_at value xs i ≡ item i) → map value xs ≡ tabulate item n
unfolding value_at
integers_all value item xs n long each = fill_by_all item (map value xs) n (pos 0) (length-map xs value ∙ long) each

-- an integer, by the element
pub value_read : {X : Type 0} (value : X → ℤ) (xs : List X) (i : ℕ) (x : X) → i < length xs → get_or xs i x ≡ x → value_at value xs i ≡ value x
unfolding value_at
value_read value xs i x h e = get_or-map value xs i x (pos 0) h ∙ ap value e
