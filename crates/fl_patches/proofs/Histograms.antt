-- Histograms, one item or some nulls more at a time.
use Rattle.std.proofs.Common.{◌≡◌, ℕ, ℤ, zero, suc, ◌+◌, ◌<◌, ◌≤◌, ◌==◌, List, [], ◌∷◌, ◌++◌, length, map, replicate, get_or, set, Bool, true, false, cond, Option, Some, None, take, drop, min, ◌-◌, le_trans, refl, ap, sym, ◌∙◌, inl, inr, arith, zero-add}
use Rattle.std.proofs.lemmas.Bool.{cases_eq, eq-eqb, ne_eqb, cases_lt}
use Rattle.std.proofs.lemmas.List.{get_or-set_same, get_or-set_other, get_or_past, length-set, length-take, length-drop, length-map, length-replicate, ext_get_or, get_or-replicate, get_or-take, get_or-drop, get_or-map, take_all, take_at}
use Rattle.std.proofs.lemmas.List.FromFn.{fill_by_all, get_or-map-range_with_len, length-map-range_with_len}
use Rattle.std.proofs.lemmas.List.Sums.{count_by-le-length, sum_by_push, sum_by-append, sum_by-cons}
use Rattle.fl_types.specs.declared.dtype.PType.{PType}
use Rattle.fl_types.specs.Bits.{between}
use Rattle.fl_types.specs.Integers.{bits_of_type, pattern_of, read_as}
use Rattle.fl_patches.specs.Exceptions.{bit_count, bits_of_item, count_with_bits, histogram_of}
use Rattle.std.proofs.Common.{IsTrue}
use Rattle.fl_types.specs.Validities.{covers, items_of}
use Rattle.fl_types.specs.declared.validity.Validity.{Validity}
use Rattle.fl_column.proofs.ItemLaws.{length-items_of}
use Rattle.fl_column.proofs.ListLaws.{between_more}
use Rattle.fl_patches.proofs.BitCounts.{bits_of_item_most, type_most}
use Rattle.fl_patches.proofs.Blocks.{between_append}

pub length-histogram : (t : PType) (items : List (Option ℤ)) → length (histogram_of t items) ≡ bits_of_type t + 1
length-histogram t items = length-map-range_with_len (count_with_bits t items) 0 (bits_of_type t + 1)

pub entry_at : (t : PType) (items : List (Option ℤ)) (b : ℕ) → b < bits_of_type t + 1 → get_or (histogram_of t items) b 0 ≡ count_with_bits t items b
entry_at t items b h = get_or-map-range_with_len (count_with_bits t items) 0 (bits_of_type t + 1) b b 0 h (zero-add b)

-- no entry counts more than all items
pub entry_few : (t : PType) (items : List (Option ℤ)) (entries : List ℕ) (b : ℕ) → entries ≡ histogram_of t items → get_or entries b 0 ≤ length items
unfolding count_with_bits
entry_few t items entries b e = elim (cases_lt b (bits_of_type t + 1)) [
  | inl within ↦ rw (e, entry_at t items b within) (count_by-le-length (λ item. bits_of_item t item == b) items)
  | inr past ↦ rw (e, get_or_past (histogram_of t items) b 0 (omega (arith, length-histogram t items))) (omega arith)
]

-- a histogram by its entries
pub histogram_by : (t : PType) (items : List (Option ℤ)) (entries : List ℕ) → length entries ≡ bits_of_type t + 1 → ((b : ℕ) → b < bits_of_type t + 1 → get_or entries b 0 ≡ count_with_bits t items b) → entries ≡ histogram_of t items
histogram_by t items entries long each = fill_by_all (count_with_bits t items) entries (bits_of_type t + 1) 0 long each

pub count_with_bits_none : (t : PType) (b : ℕ) → count_with_bits t [] b ≡ 0
unfolding count_with_bits
count_with_bits_none t b = refl

count_push : (t : PType) (items : List (Option ℤ)) (item : Option ℤ) (b : ℕ) → count_with_bits t (items ++ item ∷ []) b ≡ count_with_bits t items b + cond (bits_of_item t item == b) 1 0
unfolding count_with_bits
count_push t items item b = sum_by_push (λ (x : Option ℤ). cond (bits_of_item t x == b) 1 0) items item

pub count_cons : (t : PType) (item : Option ℤ) (items : List (Option ℤ)) (b : ℕ) → count_with_bits t (item ∷ items) b ≡ cond (bits_of_item t item == b) 1 0 + count_with_bits t items b
unfolding count_with_bits
count_cons t item items b = sum_by-cons (λ (x : Option ℤ). cond (bits_of_item t x == b) 1 0) item items

pub count_append : (t : PType) (xs ys : List (Option ℤ)) (b : ℕ) → count_with_bits t (xs ++ ys) b ≡ count_with_bits t xs b + count_with_bits t ys b
unfolding count_with_bits
count_append t xs ys b = sum_by-append (λ (x : Option ℤ). cond (bits_of_item t x == b) 1 0) xs ys

-- entries that are all 0
pub histogram_none : (t : PType) (entries : List ℕ) → length entries ≡ bits_of_type t + 1 → ((b : ℕ) → b < length entries → get_or entries b 0 ≡ 0) → entries ≡ histogram_of t []
histogram_none t entries long zeros = histogram_by t [] entries long (λ b h. zeros b (omega arith) ∙ sym (count_with_bits_none t b))

-- the same, of entries that are written as such
pub histogram_zeros : (t : PType) → replicate (bits_of_type t + 1) 0 ≡ histogram_of t []
histogram_zeros t = histogram_none t (replicate (bits_of_type t + 1) 0) (length-replicate (bits_of_type t + 1) 0) (λ b h. get_or-replicate (bits_of_type t + 1) b 0 0 (omega (arith, length-replicate {A = ℕ})))

-- one item more
pub histogram_more : (t : PType) (items : List (Option ℤ)) (item : Option ℤ) (entries : List ℕ) (b had : ℕ) → entries ≡ histogram_of t items → b ≡ bits_of_item t item → had ≡ get_or entries b 0 → set entries b (had + 1) ≡ histogram_of t (items ++ item ∷ [])
histogram_more t items item entries b had so is was =
    let long : length entries ≡ bits_of_type t + 1 = ap length so ∙ length-histogram t items in
    let room : b < length entries = omega (arith, bits_of_item_most t item) in
    histogram_by t (items ++ item ∷ []) (set entries b (had + 1)) (length-set entries b (had + 1) ∙ long) (λ k h. elim (cases_eq k b) [
      | inl same ↦
          (let before : had ≡ count_with_bits t items b = was ∙ (ap (λ xs. get_or xs b 0) so ∙ entry_at t items b (omega arith)) in
          let hit : (bits_of_item t item == b) ≡ true = eq-eqb _ _ (sym is) in
          let more : count_with_bits t (items ++ item ∷ []) b ≡ count_with_bits t items b + 1 = count_push t items item b ∙ (rw hit refl) in
          rw same (get_or-set_same entries b (had + 1) 0 room ∙ (rw before (sym more))))
      | inr other ↦
          (let miss : (bits_of_item t item == k) ≡ false = ne_eqb _ _ (λ e. other (sym e ∙ sym is)) in
          let more : count_with_bits t (items ++ item ∷ []) k ≡ count_with_bits t items k + 0 = count_push t items item k ∙ (rw miss refl) in
          let before = ap (λ xs. get_or xs k 0) so ∙ entry_at t items k h in
          get_or-set_other entries b k (had + 1) 0 other ∙ (before ∙ (let e : count_with_bits t items k ≡ count_with_bits t (items ++ item ∷ []) k = omega arith in e)))
    ])

-- n where the test holds, else 0
abbrev if_so : Bool → ℕ → ℕ
if_so true n = n
if_so false n = 0

none_of_none : (c : Bool) → 0 ≡ if_so c 0
none_of_none true = refl
none_of_none false = refl

one_of_more : (c : Bool) (n : ℕ) → cond c 1 0 + if_so c n ≡ if_so c (suc n)
one_of_more true n = omega arith
one_of_more false n = omega arith

count_nulls : (t : PType) (n b : ℕ) → count_with_bits t (replicate n None) b ≡ if_so (0 == b) n
count_nulls t zero b = count_with_bits_none t b ∙ none_of_none (0 == b)
count_nulls t (suc n) b = count_cons t None (replicate n None) b ∙ (ap (λ m. cond (0 == b) 1 0 + m) (count_nulls t n b) ∙ one_of_more (0 == b) n)

-- some nulls more
pub histogram_nulls : (t : PType) (items : List (Option ℤ)) (entries : List ℕ) (n had : ℕ) → entries ≡ histogram_of t items → had ≡ get_or entries 0 0 → set entries 0 (had + n) ≡ histogram_of t (items ++ replicate n None)
histogram_nulls t items entries n had so was =
    let long : length entries ≡ bits_of_type t + 1 = ap length so ∙ length-histogram t items in
    let room : 0 < length entries = omega arith in
    let longer : (k : ℕ) → count_with_bits t (items ++ replicate n None) k ≡ count_with_bits t items k + if_so (0 == k) n = λ k. count_append t items (replicate n None) k ∙ ap (λ m. count_with_bits t items k + m) (count_nulls t n k) in
    histogram_by t (items ++ replicate n None) (set entries 0 (had + n)) (length-set entries 0 (had + n) ∙ long) (λ k h. elim (cases_eq k 0) [
      | inl same ↦
          (let before : had ≡ count_with_bits t items 0 = was ∙ (ap (λ xs. get_or xs 0 0) so ∙ entry_at t items 0 (omega arith)) in
          rw same (get_or-set_same entries 0 (had + n) 0 room ∙ (rw before (sym (longer 0)))))
      | inr other ↦
          (let miss : (0 == k) ≡ false = ne_eqb _ _ (λ e. other (sym e)) in
          let more : count_with_bits t (items ++ replicate n None) k ≡ count_with_bits t items k + 0 = longer k ∙ (rw miss refl) in
          let before = ap (λ xs. get_or xs k 0) so ∙ entry_at t items k h in
          get_or-set_other entries 0 k (had + n) 0 other ∙ (before ∙ (let e : count_with_bits t items k ≡ count_with_bits t (items ++ replicate n None) k = omega arith in e)))
    ])

-- ---- the items that a loop goes over
pub between_next : {A : Type 0} (xs : List A) (start i : ℕ) (d : A) → start ≤ i → i < length xs → between start (i + 1) xs ≡ between start i xs ++ get_or xs i d ∷ []
between_next xs start i d order h =
    let here : start + (i - start) ≡ i = omega arith in
    let next : start + (i - start + 1) ≡ i + 1 = omega arith in
    let more = between_more xs start (i - start) d (omega arith) in
    rw (here, next) at more

pub between_empty : {A : Type 0} (xs : List A) (start : ℕ) → between start start xs ≡ []
between_empty xs start = let none : start - start ≡ 0 = omega arith in rw none refl

pub length_between_few : {A : Type 0} (xs : List A) (start end : ℕ) → length (between start end xs) ≤ end - start
length_between_few xs start end = omega (arith, length-take (end - start) (drop start xs))

-- before the first one
pub counts_none : (t : PType) (xs : List (Option ℤ)) (start : ℕ) (entries : List ℕ) → entries ≡ histogram_of t [] → entries ≡ histogram_of t (between start start xs)
counts_none t xs start entries so = so ∙ ap (histogram_of t) (sym (between_empty xs start))

-- one more
pub counts_next : (t : PType) (xs : List (Option ℤ)) (start i b had : ℕ) (entries : List ℕ) → start ≤ i → i < length xs → b ≡ bits_of_item t (get_or xs i None) → had ≡ get_or entries b 0
    → entries ≡ histogram_of t (between start i xs) → set entries b (had + 1) ≡ histogram_of t (between start (i + 1) xs)
counts_next t xs start i b had entries order h is was so =
    histogram_more t (between start i xs) (get_or xs i None) entries b had so is was ∙ ap (histogram_of t) (sym (between_next xs start i None order h))

-- an item has an entry
pub counts_room : (t : PType) (xs : List (Option ℤ)) (item : Option ℤ) (b : ℕ) (entries : List ℕ) → b ≡ bits_of_item t item → entries ≡ histogram_of t xs → b < length entries
counts_room t xs item b entries is so = let long : length entries ≡ bits_of_type t + 1 = ap length so ∙ length-histogram t xs in omega (arith, bits_of_item_most t item)

-- the entry fits
pub counts_fit : (t : PType) (xs : List (Option ℤ)) (start i b : ℕ) (entries : List ℕ) → entries ≡ histogram_of t (between start i xs) → get_or entries b 0 ≤ i - start
counts_fit t xs start i b entries so = le_trans (entry_few t (between start i xs) entries b so) (length_between_few xs start i)

nulls_between : {A : Type 0} (xs : List A) (start end : ℕ) → start ≤ end → end ≤ length xs → replicate (end - start) (let null : Option A = None in null) ≡ between start end (map (λ x. None) xs)
nulls_between {A} xs start end order room =
    let none : A → Option A = λ x. None in
    ext_get_or None (replicate (end - start) None) (between start end (map none xs))
    (omega (arith, length-replicate {A = Option A} (end - start) None, length-take (end - start) (drop start (map none xs)), length-drop start (map none xs), length-map xs none))
    (λ i h.
    let within : i < end - start = omega (arith, length-replicate {A = Option A} (end - start) None) in
    get_or-replicate (end - start) i None None within ∙ sym (get_or-take (end - start) (drop start (map none xs)) i None within ∙ (get_or-drop start (map none xs) i None ∙ nothing_at xs (start + i))))
  where
    nothing_at : {A : Type 0} (ys : List A) (k : ℕ) → get_or (map (let null : A → Option A = λ y. None in null) ys) k None ≡ None
    nothing_at [] k = refl
    nothing_at (y ∷ ys) zero = refl
    nothing_at (y ∷ ys) (suc k) = nothing_at ys k

-- nothing but nulls
pub counts_nulls : (t : PType) (xs : List ℤ) (start end had : ℕ) (entries : List ℕ) → start ≤ end → end ≤ length xs → entries ≡ histogram_of t [] → had ≡ get_or entries 0 0
    → set entries 0 (had + (end - start)) ≡ histogram_of t (between start end (map (λ x. None) xs))
counts_nulls t xs start end had entries order room so was = histogram_nulls t [] entries (end - start) had so was ∙ ap (histogram_of t) (nulls_between xs start end order room)

pub between_all : {A : Type 0} (xs : List A) (n : ℕ) → n ≡ length xs → between 0 n xs ≡ xs
between_all xs n e = take_all (n - 0) xs (omega arith)

-- the bits of an item that is there
pub item_present : {X : Type 0} (t : PType) (value : X → ℤ) (xs : List X) (i b : ℕ) (x : X) → i < length xs → x ≡ get_or xs i x → b ≡ bit_count (pattern_of t (value x)) → b ≡ bits_of_item t (get_or (map (λ z. Some z) (map value xs)) i None)
item_present t value xs i b x h read is =
    let some : get_or (map (λ z. Some z) (map value xs)) i None ≡ Some (get_or (map value xs) i (value x)) = get_or-map (λ z. Some z) (map value xs) i (value x) None (omega (arith, length-map xs value)) in
    let same : get_or (map value xs) i (value x) ≡ value x = get_or-map value xs i x (value x) h ∙ ap value (sym read) in
    is ∙ sym (ap (bits_of_item t) (some ∙ ap (λ z. Some z) same))

-- the histogram of all items, written back into a vector of as many entries
pub histogram_all : (t p : PType) (v w : Validity) (xs slots : List ℤ) (n len : ℕ) (made rest : List ℕ) → p ≡ t → w ≡ v → xs ≡ slots → IsTrue (covers v (length slots)) → n ≡ length xs → len ≡ bits_of_type t + 1
    → made ≡ histogram_of t (between 0 n (items_of w xs)) → histogram_of p (items_of v slots) ≡ take len (made ++ rest)
histogram_all t p v w xs slots n len made rest typed same values covered all room is =
    let whole : between 0 n (items_of v slots) ≡ items_of v slots = between_all (items_of v slots) n (all ∙ (ap length values ∙ sym (length-items_of v slots covered))) in
    let full : made ≡ histogram_of t (items_of v slots) = is ∙ (rw (same, values, whole) refl) in
    let long : length made ≡ len = ap length full ∙ (length-histogram t (items_of v slots) ∙ sym room) in
    rw typed (sym full ∙ sym (take_at made rest len long))

-- the first of more zeros
pub histogram_of_zeros : (t : PType) (len : ℕ) → len ≡ bits_of_type t + 1 → take len (replicate 65 0) ≡ histogram_of t []
histogram_of_zeros t len room =
    let cells : List ℕ = replicate 65 0 in
    let most : bits_of_type t ≤ 64 = type_most t in
    let all : length cells ≡ 65 = length-replicate {A = ℕ} 65 0 in
    let taken : length (take len cells) ≡ min len (length cells) = length-take len cells in
    let long : length (take len cells) ≡ bits_of_type t + 1 = omega arith in
    histogram_none t (take len cells) long (λ b h. get_or-take len cells b 0 (omega arith) ∙ get_or-replicate 65 b 0 0 (omega arith))

-- the entries of four runs, each behind the one before, add up to those of all four
pub four_runs : (t : PType) (xs : List (Option ℤ)) (a b c d e : ℕ) (first second third fourth all : List ℕ) → a ≤ b → b ≤ c → c ≤ d → d ≤ e
    → first ≡ histogram_of t (between a b xs) → second ≡ histogram_of t (between b c xs) → third ≡ histogram_of t (between c d xs) → fourth ≡ histogram_of t (between d e xs)
    → length all ≡ length first → ((k : ℕ) → get_or all k 0 ≡ get_or first k 0 + get_or second k 0 + get_or third k 0 + get_or fourth k 0) → all ≡ histogram_of t (between a e xs)
four_runs t xs a b c d e first second third fourth all ab bc cd de is1 is2 is3 is4 long sums =
    histogram_by t (between a e xs) all (long ∙ (ap length is1 ∙ length-histogram t (between a b xs))) (λ k h.
    let e1 : get_or first k 0 ≡ count_with_bits t (between a b xs) k = ap (λ l. get_or l k 0) is1 ∙ entry_at t (between a b xs) k h in
    let e2 : get_or second k 0 ≡ count_with_bits t (between b c xs) k = ap (λ l. get_or l k 0) is2 ∙ entry_at t (between b c xs) k h in
    let e3 : get_or third k 0 ≡ count_with_bits t (between c d xs) k = ap (λ l. get_or l k 0) is3 ∙ entry_at t (between c d xs) k h in
    let e4 : get_or fourth k 0 ≡ count_with_bits t (between d e xs) k = ap (λ l. get_or l k 0) is4 ∙ entry_at t (between d e xs) k h in
    let s1 : count_with_bits t (between a c xs) k ≡ count_with_bits t (between a b xs) k + count_with_bits t (between b c xs) k = ap (λ l. count_with_bits t l k) (between_append xs a b c ab bc) ∙ count_append t (between a b xs) (between b c xs) k in
    let s2 : count_with_bits t (between a d xs) k ≡ count_with_bits t (between a c xs) k + count_with_bits t (between c d xs) k = ap (λ l. count_with_bits t l k) (between_append xs a c d (le_trans ab bc) cd) ∙ count_append t (between a c xs) (between c d xs) k in
    let s3 : count_with_bits t (between a e xs) k ≡ count_with_bits t (between a d xs) k + count_with_bits t (between d e xs) k = ap (λ l. count_with_bits t l k) (between_append xs a d e (le_trans (le_trans ab bc) cd) de) ∙ count_append t (between a d xs) (between d e xs) k in
    let total = sums k in
    let same : get_or all k 0 ≡ count_with_bits t (between a e xs) k = omega arith in same)

-- an entry of a run is at most the run's length
pub entry_of_run : (t : PType) (xs : List (Option ℤ)) (a b n k : ℕ) (entries : List ℕ) → b ≡ a + n → entries ≡ histogram_of t (between a b xs) → get_or entries k 0 ≤ n
entry_of_run t xs a b n k entries is so =
    let few = entry_few t (between a b xs) entries k so in
    let most = length_between_few xs a b in
    omega arith

-- a word as an item of a type
abbrev pub word_value : {X : Type 0} → (X → ℕ) → PType → X → ℤ
word_value pattern ptype word = read_as ptype (pattern word)
