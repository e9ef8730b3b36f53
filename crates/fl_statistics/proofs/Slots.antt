-- Blocks of items in which a null is 0.
use Rattle.std.proofs.Common.{◌≡◌, ℕ, ℤ, pos, zero, suc, ◌+◌, ◌-◌, ◌*◌, ◌<◌, ◌≤◌, ◌==◌, true, false, cond, drop, min, List, [], ◌∷◌, length, map, take, get_or, set, Option, Some, None, is_none, refl, ap, sym, ◌∙◌, arith}
use Rattle.std.proofs.lemmas.List.{get_or-map, length-drop, length-map, length-take}
use Rattle.std.specs.List.{list_all}
use Rattle.fastlanes.specs.Layout.{pattern_at}
use Rattle.fl_types.specs.declared.dtype.PType.{PType}
use Rattle.fl_types.specs.declared.dtype.PType.TheVariants.{U8, U16, U32, U64, I8, I16, I32, I64}
use Rattle.fl_types.specs.Integers.{fits, pattern_of, read_as}
use Rattle.fl_types.proofs.Patterns.{read_pattern}
use Rattle.fl_column.proofs.ListLaws.{all_at}
use Rattle.fl_codec.specs.Chunks.{chunk}
use Rattle.fl_codec.proofs.Tables.{get_or-between, map-between}
use Rattle.fl_patches.specs.Costs.{block_histogram}
use Rattle.fl_patches.specs.Exceptions.{bit_count, bits_of_item, count_with_bits, histogram_of}
use Rattle.fl_patches.proofs.Histograms.{count_cons, entry_at, histogram_by, histogram_nulls, length-histogram}
use Rattle.fl_statistics.specs.Differences.{difference, slot_of}
use Rattle.fl_statistics.proofs.Signs.{difference_fits}

-- 0 has as few bits as a null
zero_bits : (t : PType) → bits_of_item t (Some (pos 0)) ≡ 0
unfolding bit_count
zero_bits U8 = refl
zero_bits U16 = refl
zero_bits U32 = refl
zero_bits U64 = refl
zero_bits I8 = refl
zero_bits I16 = refl
zero_bits I32 = refl
zero_bits I64 = refl

slot_bits : (t : PType) (item : Option ℤ) → bits_of_item t (Some (slot_of item)) ≡ bits_of_item t item
slot_bits t None = zero_bits t
slot_bits t (Some z) = refl

slots_counted : (t : PType) (items : List (Option ℤ)) (b : ℕ) → count_with_bits t (map (λ z. Some z) (map slot_of items)) b ≡ count_with_bits t items b
slots_counted t [] b = refl
slots_counted t (item ∷ items) b =
    let rest : List (Option ℤ) = map (λ z. Some z) (map slot_of items) in
    count_cons t (Some (slot_of item)) rest b
    ∙ (ap (λ n. cond (n == b) 1 0 + count_with_bits t rest b) (slot_bits t item)
    ∙ (ap (λ n. cond (bits_of_item t item == b) 1 0 + n) (slots_counted t items b) ∙ sym (count_cons t item items b)))

-- so they have the same histogram
pub slots_histogram : (t : PType) (items : List (Option ℤ)) → histogram_of t (map (λ z. Some z) (map slot_of items)) ≡ histogram_of t items
slots_histogram t items =
    let slots : List (Option ℤ) = map (λ z. Some z) (map slot_of items) in
    histogram_by t items (histogram_of t slots) (length-histogram t slots) (λ b h. entry_at t slots b h ∙ slots_counted t items b)

-- a block has as many slots as items
pub block_length : {X : Type 0} (value : X → ℤ) (xs : List X) (block : List (Option ℤ)) → map value xs ≡ map slot_of block → length xs ≡ length block
block_length value xs block same = sym (length-map xs value) ∙ (ap length same ∙ length-map block slot_of)

pub block_size : {X : Type 0} (value : X → ℤ) (room : List X) (count : ℕ) (block : List (Option ℤ)) → count ≤ length room → map value (take count room) ≡ map slot_of block → count ≡ length block
block_size value room count block few same =
    let taken : length (take count room) ≡ count = omega (arith, length-take count room) in
    sym taken ∙ block_length value (take count room) block same

pub null_item : (item : Option ℤ) → is_none item ≡ true → item ≡ None
null_item None e = refl
null_item (Some z) e = cc

some_item : (item : Option ℤ) → is_none item ≡ false → Some (slot_of item) ≡ item
some_item None e = cc
some_item (Some z) e = refl

-- an item that is not null is its slot
pub item_slot : {X : Type 0} (value : X → ℤ) (xs : List X) (block : List (Option ℤ)) (q : ℕ) (x : X) → q < length xs → map value xs ≡ map slot_of block → x ≡ get_or xs q x → is_none (get_or block q None) ≡ false → Some (value x) ≡ get_or block q None
item_slot value xs block q x h same read here =
    let even = block_length value xs block same in
    let slot : value x ≡ slot_of (get_or block q None) = ap value read ∙ (sym (get_or-map value xs q x (pos 0) h) ∙ (ap (λ zs. get_or zs q (pos 0)) same ∙ get_or-map slot_of block q None (pos 0) (omega arith))) in
    ap (λ z. Some z) slot ∙ some_item (get_or block q None) here

-- a block's items and the nulls after them
pub block_filled : (t : PType) (items : List (Option ℤ)) (block count had : ℕ) (entries : List ℕ) → count ≡ length (chunk block items) → entries ≡ histogram_of t (chunk block items) → had ≡ get_or entries 0 0 → set entries 0 (had + (1024 - count)) ≡ block_histogram t items block
unfolding block_histogram
block_filled t items block count had entries size is was = rw size (histogram_nulls t (chunk block items) entries (1024 - length (chunk block items)) had is was)

-- ---- words
-- the word 0 is read as 0
pub zero_read : (t : PType) → read_as t 0 ≡ pos 0
zero_read U8 = refl
zero_read U16 = refl
zero_read U32 = refl
zero_read U64 = refl
zero_read I8 = refl
zero_read I16 = refl
zero_read I32 = refl
zero_read I64 = refl

-- an integer that fits is read back from the word that is written for it
pub word_written : (t : PType) (reference z x : ℤ) (pattern : ℕ) → pattern ≡ pattern_of t x → x ≡ difference t reference z → read_as t pattern ≡ difference t reference z
word_written t reference z x pattern is so = ap (read_as t) (is ∙ ap (pattern_of t) so) ∙ read_pattern t (difference t reference z) (difference_fits t reference z)

word_at_place : {X : Type 0} (t : PType) (pattern : X → ℕ) (words : List X) (q : ℕ) → q < length words → get_or (map (λ w. read_as t (pattern w)) words) q (pos 0) ≡ read_as t (pattern_at pattern words q)
unfolding pattern_at
word_at_place t pattern [] q h = absurd (omega arith)
word_at_place t pattern (w ∷ words) zero h = refl
word_at_place t pattern (w ∷ words) (suc q) h = word_at_place t pattern words q (omega arith)

-- the words of a block's patterns are read as its items
pub patterns_read : {X Y : Type 0} (t ptype : PType) (pattern : X → ℕ) (value : Y → ℤ) (words : List X) (xs part : List Y) (slots : List ℤ) (block q : ℕ) → ptype ≡ t → list_all (fits ptype) slots ≡ true → map value xs ≡ slots → part ≡ chunk block xs → length words ≡ 1024 → q < 1024 → 1024 * block + q < length slots
    → ((i : ℕ) → i < length part → pattern_at pattern words i ≡ pattern_of t (get_or (map value part) i (pos 0)))
    → get_or (map (λ w. read_as t (pattern w)) words) q (pos 0) ≡ get_or slots (1024 * block + q) (pos 0)
patterns_read t ptype pattern value words xs part slots block q typed fit values is whole inside h each =
    let i = 1024 * block + q in
    let z = get_or slots i (pos 0) in
    let even : length xs ≡ length slots = sym (length-map xs value) ∙ ap length values in
    let size : length part ≡ min (length xs - 1024 * block) 1024 = ap length is ∙ omega (arith, length-take (1024 * (block + 1) - 1024 * block) (drop (1024 * block) xs), length-drop (1024 * block) xs) in
    let item : get_or (map value part) q (pos 0) ≡ z = ap (λ ys. get_or (map value ys) q (pos 0)) is ∙ (ap (λ ys. get_or ys q (pos 0)) (map-between value xs (1024 * block) (1024 * (block + 1)) ∙ ap (chunk block) values) ∙ get_or-between slots (1024 * block) (1024 * (block + 1)) q (pos 0) (omega arith)) in
    let fits_type : fits t z ≡ true = ap (λ u. fits u z) (sym typed) ∙ all_at (fits ptype) slots i (pos 0) fit h in
    word_at_place t pattern words q (omega arith) ∙ (ap (read_as t) (each q (omega arith) ∙ ap (pattern_of t) item) ∙ read_pattern t z fits_type)
