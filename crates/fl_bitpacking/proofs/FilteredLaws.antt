-- Items that a mask keeps, word by word and block by block.
use Rattle.std.proofs.Common.{◌≡◌, ℕ, ℤ, Bor, pos, suc, ◌+◌, ◌-◌, ◌<◌, ◌≤◌, ◌++◌, ◌/◌, ◌%◌, ◌==◌, Bool, true, false, cond, nat_lt, bit_and, set, inl, inr, List, [], ◌∷◌, length, map, get_or, take, drop, Option, Some, None, IsTrue, map-id, refl, ap, sym, ◌∙◌, arith, append_assoc, append-nil, length-take, length-drop, ◌^◌, count_ones}
use Rattle.std.specs.Prelude.{IfSome, OnOk, Result, Ok, Err, is_ok, if◌then◌else◌}
use Rattle.std.specs.Int.{bit_at}
use Rattle.std.proofs.lemmas.Bool.{cases_eq, cases_lt, le-ltb, lt-ltb}
use Rattle.std.proofs.lemmas.List.{drop-drop, get_or-drop, get_or-map, get_or-take, length-map, map-append}
use Rattle.std.proofs.lemmas.List.FromFn.{get_or-map-range_with_len}
use Rattle.std.proofs.lemmas.Nat.Bits.{bit_at_ones}
use Rattle.fl_types.specs.declared.dtype.PType.{PType}
use Rattle.fl_types.proofs.WordBits.{none_above, ones_of_bits}
use Rattle.fl_types.specs.Bits.{between, bit_of_word, tabulate, true_count}
use Rattle.fl_types.specs.declared.dtype.DType.TheVariants.{Primitive}
use Rattle.fl_types.specs.declared.mask.Mask.TheVariants.{Values}
use Rattle.fl_types.specs.declared.validity.Validity.{Validity}
use Rattle.fl_types.specs.Validities.{covers, items_of, nullability_of}
use Rattle.fl_column.specs.Columns.{PrimitiveParts, column_of_primitive}
use Rattle.fl_column.specs.Operations.{filter_of, kept}
use Rattle.fl_column.specs.Selections.{kept_validity}
use Rattle.fl_types.proofs.KeptLaws.{bit_true, kept_split, others_left}
use Rattle.fl_column.proofs.FilterLaws.{kept_agree, kept_all, kept_few, kept_map, filtered_column, kept_covers}
use Rattle.fl_patches.specs.PatchMaps.{PatchesParts}
use Rattle.fl_bitpacking.specs.Blocks.{Blocks, block_item, blocks_of, bytes_of_block, item_of_blocks, value_at}
use Rattle.fl_bitpacking.specs.Columns.{column_of_packed, packed_item}
use Rattle.fl_bitpacking.specs.Filtered.{AreKept, items_before, slot_of, slots_of}
use Rattle.fl_bitpacking.specs.Parts.{Fit, blocks_to_read, parts_of}
use Rattle.fl_bitpacking.specs.Taken.{slot_at}
use Rattle.fl_patches.specs.declared.widths.Widths.{Widths}
use Rattle.fl_bitpacking.specs.declared.bitpack_decompress.PackedColumn.{PackedColumn}
use Rattle.fl_bitpacking.specs.declared.compute.filter.Filtering.{Filtering}
use Rattle.fl_bitpacking.proofs.ColumnLaws.{items_made}
use Rattle.fl_bitpacking.proofs.Natives.{value_at_set_other, value_at_set_same}
use Rattle.fl_bitpacking.proofs.Slices.{part_written}
use Rattle.fl_bitpacking.proofs.TakenLaws.{item_of_run}
use Rattle.fl_bitpacking.proofs.Tables.{get_or-table, length-table}

-- ---- words
-- the items at the set bits of a word, and those after it
pub kept_word : {A : Type 0} (bits : List Bool) (xs : List A) (from at count word : ℕ) → at + count ≤ length xs → count ≤ 64 → from + length xs ≤ length bits → ((j : ℕ) → j < count → bit_of_word word j ≡ get_or bits (from + at + j) false)
    → kept (drop (from + at) bits) (drop at xs) ≡ kept (tabulate (bit_of_word word) 64) (take count (drop at xs)) ++ kept (drop (from + (at + count)) bits) (drop (at + count) xs)
kept_word bits xs from at count word within few enough is =
    let word_bits = tabulate (bit_of_word word) 64 in
    let marked : length word_bits ≡ 64 = length-table (bit_of_word word) 64 in
    let here = take count (drop at xs) in
    let size : length here ≡ count = omega (arith, length-take count (drop at xs), length-drop at xs) in
    let marks = take count (drop (from + at) bits) in
    let many : length marks ≡ count = omega (arith, length-take count (drop (from + at) bits), length-drop (from + at) bits) in
    let front : kept marks here ≡ kept word_bits here = kept_agree marks word_bits here (omega arith) (omega arith) (λ i h.
    get_or-take count (drop (from + at) bits) i false (omega arith) ∙ get_or-drop (from + at) bits i false ∙ sym (is i (omega arith)) ∙ sym (get_or-table (bit_of_word word) 64 i false (omega arith))) in
    let next : from + at + count ≡ from + (at + count) = omega arith in
    let rest : kept (drop count (drop (from + at) bits)) (drop count (drop at xs)) ≡ kept (drop (from + (at + count)) bits) (drop (at + count) xs) =
    ap (λ l. kept l (drop count (drop at xs))) (drop-drop count (from + at) bits ∙ ap (λ (k : ℕ). drop k bits) next) ∙ ap (λ l. kept (drop (from + (at + count)) bits) l) (drop-drop count at xs) in
    kept_split count (drop (from + at) bits) (drop at xs) ∙ ap (λ l. l ++ kept (drop count (drop (from + at) bits)) (drop count (drop at xs))) front ∙ ap (λ l. kept word_bits here ++ l) rest

-- one more word of items
pub word_pushed : {A : Type 0} (bits : List Bool) (xs old now new all : List A) (from at count word : ℕ) → at + count ≤ length xs → count ≤ 64 → from + length xs ≤ length bits → ((j : ℕ) → j < count → bit_of_word word j ≡ get_or bits (from + at + j) false)
    → new ≡ now ++ kept (tabulate (bit_of_word word) 64) (take count (drop at xs)) → now ++ kept (drop (from + at) bits) (drop at xs) ≡ all → new ++ kept (drop (from + (at + count)) bits) (drop (at + count) xs) ≡ all
word_pushed bits xs old now new all from at count word within few enough is added before =
    let here = kept (tabulate (bit_of_word word) 64) (take count (drop at xs)) in
    let rest = kept (drop (from + (at + count)) bits) (drop (at + count) xs) in
    ap (λ l. l ++ rest) added ∙ append_assoc now here rest ∙ ap (λ l. now ++ l) (sym (kept_word bits xs from at count word within few enough is)) ∙ before

-- ---- blocks
-- items that are the same where they are kept
pub kept_same : {A : Type 0} (bits : List Bool) (xs ys : List A) (d : A) → length xs ≡ length ys → ((i : ℕ) → i < length xs → get_or bits i false ≡ true → get_or xs i d ≡ get_or ys i d) → kept bits xs ≡ kept bits ys
kept_same [] xs ys d even same = refl
kept_same (b ∷ bits) [] [] d even same = refl
kept_same (b ∷ bits) [] (y ∷ ys) d even same = absurd (omega (arith, even))
kept_same (b ∷ bits) (x ∷ xs) [] d even same = absurd (omega (arith, even))
kept_same (true ∷ bits) (x ∷ xs) (y ∷ ys) d even same = ap (λ z. z ∷ kept bits xs) (same 0 (omega arith) refl) ∙ ap (λ l. y ∷ l) (kept_same bits xs ys d (omega (arith, even)) (λ i h. same (suc i) (omega (arith, h))))
kept_same (false ∷ bits) (x ∷ xs) (y ∷ ys) d even same = kept_same bits xs ys d (omega (arith, even)) (λ i h. same (suc i) (omega (arith, h)))

rest_after : {A : Type 0} (bits : List Bool) (xs : List A) (from n : ℕ) → kept (drop from bits) (drop from xs) ≡ kept (take n (drop from bits)) (take n (drop from xs)) ++ kept (drop (from + n) bits) (drop (from + n) xs)
rest_after bits xs from n =
    kept_split n (drop from bits) (drop from xs)
    ∙ ap (λ l. kept (take n (drop from bits)) (take n (drop from xs)) ++ kept l (drop n (drop from xs))) (drop-drop n from bits)
    ∙ ap (λ l. kept (take n (drop from bits)) (take n (drop from xs)) ++ kept (drop (from + n) bits) l) (drop-drop n from xs)

-- one more block of items, which are right where they are kept
pub block_pushed : {X : Type 0} (value : X → ℤ) (bits : List Bool) (slots : List ℤ) (from n : ℕ) (part old new : List X) → from + n ≤ length slots → length bits ≡ length slots → length part ≡ n
    → ((i : ℕ) → i < n → get_or bits (from + i) false ≡ true → value_at value part i ≡ get_or slots (from + i) (pos 0)) → new ≡ old ++ kept (drop from bits) part
    → map value old ++ kept (drop from bits) (drop from slots) ≡ kept bits slots → map value new ++ kept (drop (from + n) bits) (drop (from + n) slots) ≡ kept bits slots
unfolding value_at
block_pushed value bits slots from n part old new within even long each is begun =
    let here = take n (drop from slots) in
    let rest = kept (drop (from + n) bits) (drop (from + n) slots) in
    let size : length here ≡ n = omega (arith, length-take n (drop from slots), length-drop from slots) in
    let many : length (map value part) ≡ n = length-map part value ∙ long in
    let cut : kept (take n (drop from bits)) here ≡ kept (drop from bits) here = kept_agree (take n (drop from bits)) (drop from bits) here (omega (arith, length-take n (drop from bits), length-drop from bits)) (omega (arith, length-drop from bits)) (λ i h.
    get_or-take n (drop from bits) i false (omega arith)) in
    let same : kept (drop from bits) (map value part) ≡ kept (drop from bits) here = kept_same (drop from bits) (map value part) here (pos 0) (many ∙ sym size) (λ i h set.
    each i (omega arith) (sym (get_or-drop from bits i false) ∙ set) ∙ sym (get_or-take n (drop from slots) i (pos 0) (omega arith) ∙ get_or-drop from slots i (pos 0))) in
    let taken : map value new ≡ map value old ++ kept (drop from bits) here = ap (map value) is ∙ map-append value old (kept (drop from bits) part) ∙ ap (λ l. map value old ++ l) (sym (kept_map value (drop from bits) part) ∙ same) in
    ap (λ l. l ++ rest) taken ∙ append_assoc (map value old) (kept (drop from bits) here) rest
    ∙ ap (λ l. map value old ++ l) (sym (rest_after bits slots from n ∙ ap (λ l. l ++ rest) cut)) ∙ begun

nil_of : {A : Type 0} (xs : List A) → length xs ≤ 0 → xs ≡ []
nil_of [] h = refl
nil_of (x ∷ xs) h = absurd (omega (arith, h))

-- a block of which no item is kept
pub block_skipped : (bits : List Bool) (slots taken : List ℤ) (from n : ℕ) → true_count (between from (from + n) bits) ≡ 0
    → taken ++ kept (drop from bits) (drop from slots) ≡ kept bits slots → taken ++ kept (drop (from + n) bits) (drop (from + n) slots) ≡ kept bits slots
block_skipped bits slots taken from n none begun =
    let count : from + n - from ≡ n = omega arith in
    let here = kept (take n (drop from bits)) (take n (drop from slots)) in
    let few : true_count (take n (drop from bits)) ≡ 0 = ap (λ (m : ℕ). true_count (take m (drop from bits))) (sym count) ∙ none in
    let nothing : here ≡ [] = nil_of here (let most = kept_few (take n (drop from bits)) (take n (drop from slots)) in omega arith) in
    ap (λ l. taken ++ l) (sym (rest_after bits slots from n ∙ ap (λ l. l ++ kept (drop (from + n) bits) (drop (from + n) slots)) nothing)) ∙ begun

-- after the last block nothing is left
pub blocks_pushed : (bits : List Bool) (slots taken : List ℤ) (n : ℕ) → length bits ≤ n → taken ++ kept (drop n bits) (drop n slots) ≡ kept bits slots → taken ≡ kept bits slots
blocks_pushed bits slots taken n all begun =
    let none : drop n bits ≡ [] = nil_of (drop n bits) (omega (arith, length-drop n bits)) in
    sym (append-nil taken) ∙ ap (λ l. taken ++ kept l (drop n slots)) (sym none) ∙ begun

-- ---- patches of a part
pub part_fits : (patches : Option PatchesParts) (ptype t : PType) (end len : ℕ) → ptype ≡ t → end ≤ len → IfSome patches (λ p. (p.array_len ≡ len) × (p.values.ptype ≡ ptype)) → IfSome patches (λ p. (end ≤ p.array_len) × (p.values.ptype ≡ t))
part_fits None ptype t end len typed within fit = tt
part_fits (Some p) ptype t end len typed within fit = let long = fit.0 in (omega arith, fit.1 ∙ typed)

-- ---- a part of the items is written
-- an integer where a part is written
pub part_value : {X : Type 0} (value : X → ℤ) (items new rest : List X) (from to i : ℕ) → from ≤ length items → length new ≡ to - from → i < to
    → value_at value (take from items ++ (new ++ rest)) i ≡ cond (nat_lt i from) (value_at value items i) (value_at value new (i - from))
part_value value items new rest from to i room long h =
    part_written value (λ k. cond (nat_lt k from) (value_at value items k) (value_at value new (k - from))) items new rest from to i room long
    (λ k below. rw (lt-ltb k from below) refl)
    (λ k below. let place : from + k - from ≡ k = omega arith in rw (le-ltb (from + k) from (omega arith), place) refl) h

-- items that are read where they are kept, of which one more part is
pub part_read : {X : Type 0} (value : X → ℤ) (item : ℕ → ℤ) (kept_at : ℕ → Bool) (items new rest : List X) (from to : ℕ) → from ≤ length items → length new ≡ to - from
    → ((i : ℕ) → i < from → kept_at i ≡ true → value_at value items i ≡ item i) → ((j : ℕ) → j < to - from → kept_at (from + j) ≡ true → value_at value new j ≡ item (from + j))
    → (i : ℕ) → i < to → kept_at i ≡ true → value_at value (take from items ++ (new ++ rest)) i ≡ item i
part_read value item kept_at items new rest from to room long done more i h set =
    part_value value items new rest from to i room long h ∙ elim (cases_lt i from) [
      | inl before ↦ rw (lt-ltb i from before) (done i before set)
      | inr after ↦
          let place : from + (i - from) ≡ i = omega arith in
          rw (le-ltb i from after) (more (i - from) (omega arith) (ap kept_at place ∙ set) ∙ ap item place)
    ]

-- one more item of a word is read
pub word_read : {X : Type 0} (value : X → ℤ) (item : ℕ → ℤ) (items : List X) (x : X) (word rest t : ℕ) → t < length items → value x ≡ item t → bit_at rest t ≡ 1 → ((i : ℕ) → i < t → bit_at rest i ≡ 0)
    → ((j : ℕ) → bit_of_word word j ≡ true → bit_of_word rest j ≡ false → value_at value items j ≡ item j)
    → (j : ℕ) → bit_of_word word j ≡ true → bit_of_word (bit_and rest (rest - 1)) j ≡ false → value_at value (set items t x) j ≡ item j
unfolding bit_of_word
word_read value item items x word rest t inside is here below done j on off = elim (cases_eq j t) [
  | inl same ↦ value_at_set_same value items t j x same inside ∙ is ∙ ap item (sym same)
  | inr other ↦ value_at_set_other value items t j x other ∙ done j on (ap (λ (m : ℕ). m == 1) (sym (others_left rest t j here below other)) ∙ off)
]

-- an item of block j by its position in the block
pub item_in : (ptype : PType) (blocks : Blocks) (packed block : List ℕ) (width j first p q : ℕ) → width ≡ blocks.width j → block ≡ bytes_of_block blocks packed j → first ≡ p % 1024 → p / 1024 ≡ j → (p + q) / 1024 ≡ j
    → block_item ptype width block (first + q) ≡ item_of_blocks ptype blocks packed (p + q)
item_in ptype blocks packed block width j first p q width_is block_is first_is here there =
    let place : first + q ≡ (p + q) % 1024 = omega arith in
    rw place (item_of_run ptype blocks packed block width j (p + q) width_is block_is there)

-- ---- ends
-- a set bit is one of the first, where no other is set
pub bit_below : (word count j : ℕ) → ((i : ℕ) → count ≤ i → bit_of_word word i ≡ false) → bit_of_word word j ≡ true → j < count
bit_below word count j clear set = elim (cases_lt j count) [
  | inl below ↦ below
  | inr above ↦ absurd (let wrong = clear j above in let no : true ≡ false = sym set ∙ wrong in cc)
]

-- after the last item nothing is kept
pub nothing_after : {A : Type 0} (bits : List Bool) (xs taken all : List A) (n m : ℕ) → length xs ≤ m → taken ++ kept (drop n bits) (drop m xs) ≡ all → taken ≡ all
nothing_after bits xs taken all n m past before =
    let none : drop m xs ≡ [] = nil_of (drop m xs) (omega (arith, length-drop m xs)) in
    sym (append-nil taken) ∙ ap (λ l. taken ++ l) (sym (kept_of_none (drop n bits))) ∙ ap (λ l. taken ++ kept (drop n bits) l) (sym none) ∙ before
  where
    kept_of_none : {A : Type 0} (bits : List Bool) → kept {A = A} bits [] ≡ []
    kept_of_none [] = refl
    kept_of_none (b ∷ bits) = refl

-- ---- columns
-- what stands at an item
pub slot_is : (ptype : PType) (bytes : List ℕ) (f : Filtering) (i : ℕ) → i < f.blocks.len → slot_of ptype bytes f i ≡ get_or (slots_of ptype bytes f) i (pos 0)
slot_is ptype bytes f i h = sym (get_or-table (slot_of ptype bytes f) f.blocks.len i (pos 0) h)

pub length-slots_of : (ptype : PType) (bytes : List ℕ) (f : Filtering) → length (slots_of ptype bytes f) ≡ f.blocks.len
length-slots_of ptype bytes f = length-table (slot_of ptype bytes f) f.blocks.len

-- before the first block all is still to come
pub none_kept : {X : Type 0} (value : X → ℤ) (ptype : PType) (bytes : List ℕ) (f : Filtering) → f.blocks.offset < 1024 → AreKept value ptype bytes f (items_before f 0) []
none_kept value ptype bytes f inside = let none : items_before f 0 ≡ 0 = omega arith in rw none refl

-- what stands at the items of a column
pub slots_in : PackedColumn → Widths → List ℤ
slots_in c widths = tabulate (slot_at (parts_of c) (blocks_of widths)) c.len

length-slots_in : (c : PackedColumn) (widths : Widths) → length (slots_in c widths) ≡ c.len
unfolding slots_in
length-slots_in c widths = length-table (slot_at (parts_of c) (blocks_of widths)) c.len

pub slots_by_type : (c : PackedColumn) (widths : Widths) (bits : Bor (List Bool)) (t : PType) → c.ptype ≡ t → slots_of t c.packed.now (record { blocks = blocks_to_read c widths; patches = c.patches; bits = bits }) ≡ slots_in c widths
unfolding slots_in
slots_by_type c widths bits t typed = rw (← typed) refl

-- the column of what stands at the items
column_of_slots : (c : PackedColumn) (widths : Widths) → Fit (parts_of c) → column_of_primitive (record { ptype = c.ptype; slots = slots_in c widths; validity = c.validity.now }) ≡ column_of_packed (parts_of c) (blocks_of widths)
unfolding value_at slots_in
column_of_slots c widths fit =
    let parts = parts_of c in
    let blocks = blocks_of widths in
    let slots = tabulate (slot_at parts blocks) c.len in
    let long = length-table (slot_at parts blocks) c.len in
    let made = items_made (λ (z : ℤ). z) parts blocks slots fit.covers long (λ i h.
    get_or-map (λ (z : ℤ). z) slots i (pos 0) (pos 0) (rw long h) ∙ get_or-table (slot_at parts blocks) c.len i (pos 0) h) in
    let items : items_of c.validity.now slots ≡ tabulate (packed_item parts blocks) c.len = ap (items_of c.validity.now) (sym (map-id slots)) ∙ made in
    ap (λ (xs : List (Option ℤ)). record { dtype = Primitive c.ptype (nullability_of c.validity.now); items = xs }) items

-- what is kept of the column
pub kept_column : {X : Type 0} (value : X → ℤ) (c : PackedColumn) (widths : Widths) (bits : List Bool) (t : PType) (items : List X) (v : Validity) (r : PrimitiveParts) → Fit (parts_of c) → c.ptype ≡ t → map value items ≡ kept bits (slots_in c widths) → v ≡ kept_validity bits c.validity.now
    → r ≡ record { ptype = t; slots = map value items; validity = v } → filter_of (Values bits) (column_of_packed (parts_of c) (blocks_of widths)) ≡ column_of_primitive r
kept_column value c widths bits t items v r fit typed slots valid is =
    let a : PrimitiveParts = record { ptype = c.ptype; slots = slots_in c widths; validity = c.validity.now } in
    let covered : IsTrue (covers a.validity (length a.slots)) = rw (length-slots_in c widths) fit.covers in
    let parts : r ≡ record { ptype = a.ptype; slots = kept bits a.slots; validity = kept_validity bits a.validity } = is ∙ (rw (slots, valid, typed) refl) in
    ap (filter_of (Values bits)) (sym (column_of_slots c widths fit)) ∙ filtered_column a r bits covered parts

pub slots_covered : {X : Type 0} (value : X → ℤ) (c : PackedColumn) (widths : Widths) (bits : List Bool) (items : List X) (v : Validity) → Fit (parts_of c) → map value items ≡ kept bits (slots_in c widths) → v ≡ kept_validity bits c.validity.now → IsTrue (covers v (length items))
slots_covered value c widths bits items v fit slots valid =
    let covered : IsTrue (covers c.validity.now (length (slots_in c widths))) = rw (length-slots_in c widths) fit.covers in
    let long : length items ≡ length (kept bits (slots_in c widths)) = sym (length-map items value) ∙ ap length slots in
    rw (valid, long) (kept_covers c.validity.now bits (slots_in c widths) covered)

-- what was appended if there was room
pub extended : {R E A : Type 0} (r : Result R E) (new old xs ys : List A) → ys ≡ xs → new ≡ (if is_ok r then old ++ xs else old) → OnOk r (new ≡ old ++ ys)
extended (Ok x) new old xs ys same is = is ∙ ap (λ l. old ++ l) (sym same)
extended (Err e) new old xs ys same is = tt

-- a full word keeps each item
pub all_kept : {A : Type 0} (word : ℕ) (xs : List A) → word ≡ 18446744073709551615 → length xs ≤ 64 → kept (tabulate (bit_of_word word) 64) xs ≡ xs
all_kept word xs is few =
    kept_all (tabulate (bit_of_word word) 64) xs (λ i h. get_or-map-range_with_len (bit_of_word word) 0 64 i i false (omega arith) (omega arith) ∙ (ap (λ (w : ℕ). bit_of_word w i) is ∙ bit_true 18446744073709551615 i (bit_at_ones 64 i (omega arith))))

-- there is room for the items of a word where there is for its set bits
pub room_for : {A : Type 0} (word len most : ℕ) (xs : List A) → word < 2 ^ 64 → len + count_ones word ≤ most → len + length (kept (tabulate (bit_of_word word) 64) xs) ≤ most
room_for word len most xs small room =
    let few = kept_few (tabulate (bit_of_word word) 64) xs in
    let ones = ones_of_bits (bit_of_word word) 64 word (λ j h. refl) (λ j h. none_above word j small h) in
    omega arith
