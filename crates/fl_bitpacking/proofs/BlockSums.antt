-- Items that are made of the integers in packed blocks.
use Rattle.std.proofs.Common.{◌≡◌, ℕ, ℤ, pos, ◌+◌, ◌*◌, ◌/◌, ◌%◌, ◌^◌, ◌<◌, ◌≤◌, ◌+ℤ◌, ◌-◌, Bool, true, false, List, [], ◌∷◌, length, map, min, get_or, slice_get, Option, Some, None, option_map, unwrap_or, cond, IsTrue, refl, ap, sym, subst, ◌∙◌, arith}
use Rattle.std.specs.Prelude.{if◌then◌else◌}
use Rattle.std.proofs.Math.Pow.{pow_mono}
use Rattle.std.proofs.lemmas.Nat.{mod_below, pow_pos}
use Rattle.std.proofs.lemmas.List.{get_or-map, length-map}
use Rattle.std.proofs.lemmas.Option.{slice_get-get_or, slice_get_past}
use Rattle.std.proofs.lemmas.List.FromFn.{fill_by_all}
use Rattle.fastlanes.specs.Layout.{IsWordWidth, pattern_at, unpacked_item, word_at}
use Rattle.fastlanes.proofs.Patterns.{pattern_at_read}
use Rattle.fl_types.specs.declared.dtype.PType.{PType}
use Rattle.fl_types.specs.Bits.{between, tabulate}
use Rattle.fl_types.specs.Integers.{bits_of_type, is_unsigned, pattern_of, read_as, wrap}
use Rattle.fl_types.specs.Validities.{covers, is_valid_at, items_of}
use Rattle.fl_types.proofs.BitLists.{same_tables}
use Rattle.fl_types.proofs.Patterns.{pattern_read}
use Rattle.fl_column.specs.Columns.{Column}
use Rattle.fl_column.proofs.ItemLaws.{get_or-items_of, length-items_of}
use Rattle.fl_codec.specs.FoRColumns.{chunked_for, global_for, plus_reference}
use Rattle.fl_codec.proofs.Congruence.{IsPattern, IsPattern-add, IsPattern-mod, pattern_is, read_as-IsPattern}
use Rattle.fl_patches.specs.PatchMaps.{patched_in}
use Rattle.fl_bitpacking.specs.Blocks.{Blocks, block_item, item_of_blocks, value_at}
use Rattle.fl_bitpacking.specs.BlockSums.{block_reference, decoded_column, decoded_item, plus_block_reference, plus_if_some}
use Rattle.fl_bitpacking.specs.Columns.{BitPackedParts, block_count, column_of_packed, packed_item, stored}
use Rattle.fl_bitpacking.proofs.Joined.{item_read}
use Rattle.fl_bitpacking.proofs.Natives.{block_item_is, unpacked_small, unsigned_pattern, unsigned_read}
use Rattle.fl_bitpacking.proofs.Tables.{get_or-table, length-table}

-- ---- sums of patterns
-- the sum of a pattern and that of an integer is read as the sum of what they are read as
pub sum_read : (ptype : PType) (p : ℕ) (r : ℤ) → p < 2 ^ bits_of_type ptype → read_as ptype ((p + pattern_of ptype r) % 2 ^ bits_of_type ptype) ≡ wrap ptype (read_as ptype p +ℤ r)
sum_read ptype p r small =
    let N : ℕ = 2 ^ bits_of_type ptype in
    let itself : IsPattern N (read_as ptype p) p = subst (λ (n : ℕ). IsPattern N (read_as ptype p) n) (pattern_read ptype p small) (pattern_is ptype (read_as ptype p)) in
    read_as-IsPattern ptype (read_as ptype p +ℤ r) _ (IsPattern-mod N (read_as ptype p +ℤ r) (p + pattern_of ptype r) (IsPattern-add N (read_as ptype p) r p (pattern_of ptype r) itself (pattern_is ptype r)))

-- an unpacked item plus the pattern of a reference
sum_of_block : (ptype : PType) (T lanes width : ℕ) (bytes : List ℕ) (i : ℕ) (r : ℤ) (p : ℕ) → IsWordWidth T lanes → T ≡ bits_of_type ptype → width ≤ T
    → p ≡ (unpacked_item T lanes width (word_at T bytes) i + pattern_of ptype r) % 2 ^ T → read_as ptype p ≡ wrap ptype (block_item ptype width bytes i +ℤ r)
sum_of_block ptype T lanes width bytes i r p shape bits narrow is =
    let item = unpacked_item T lanes width (word_at T bytes) i in
    let low = unpacked_small T lanes width (word_at T bytes) i in
    let wide = pow_mono narrow in
    let small : unpacked_item T lanes width (word_at T bytes) i < 2 ^ T = omega arith in
    let stored = block_item_is ptype T lanes width bytes i item (read_as ptype item) shape bits refl refl in
    ap (read_as ptype) (is ∙ ap (λ (t : ℕ). (item + pattern_of ptype r) % 2 ^ t) bits) ∙ (sum_read ptype item r (rw (← bits) small) ∙ ap (λ z. wrap ptype (z +ℤ r)) stored)

-- the words of a block of an unsigned type that were unpacked, plus a reference
pub unsigned_sums : (ptype : PType) (T lanes width reference : ℕ) (items bytes : List ℕ) → IsWordWidth T lanes → T ≡ bits_of_type ptype → is_unsigned ptype ≡ true → width ≤ T → reference < 2 ^ T → length items ≡ 1024
    → ((i : ℕ) → i < 1024 → pattern_at (λ x. x) items i ≡ (unpacked_item T lanes width (word_at T bytes) i + reference) % 2 ^ T)
    → (i : ℕ) → i < 1024 → value_at (λ n. pos n) items i ≡ wrap ptype (block_item ptype width bytes i +ℤ pos reference)
unfolding pattern_at value_at
unsigned_sums ptype T lanes width reference items bytes shape bits plain narrow small long each i h =
    let inside : i < length items = rw long h in
    let item = unpacked_item T lanes width (word_at T bytes) i in
    let sum : ℕ = (item + reference) % 2 ^ T in
    let number : get_or items i 0 ≡ sum = sym (get_or-map (λ x. x) items i 0 0 inside) ∙ each i h in
    let below : sum < 2 ^ T = mod_below (item + reference) (2 ^ T) (pow_pos T) in
    let itself = unsigned_pattern ptype reference plain (rw (← bits) small) in
    get_or-map (λ n. pos n) items i 0 (pos 0) inside ∙ (ap pos number ∙ (sym (unsigned_read ptype sum plain (rw (← bits) below))
    ∙ sum_of_block ptype T lanes width bytes i (pos reference) sum shape bits narrow (ap (λ (n : ℕ). (item + n) % 2 ^ T) (sym itself))))

-- a word of a block that was unpacked plus a reference, read as the type
pub sum_of_word : {W : Type 0} (pattern : W → ℕ) (ptype : PType) (T lanes width : ℕ) (patterns : List W) (bytes : List ℕ) (reference : ℕ) (r : ℤ) (i : ℕ) (w : W) (z : ℤ) → IsWordWidth T lanes → T ≡ bits_of_type ptype → width ≤ T → i < 1024
    → w ≡ get_or patterns i w → ((k : ℕ) → k < 1024 → pattern_at pattern patterns k ≡ (unpacked_item T lanes width (word_at T bytes) k + reference) % 2 ^ T) → length patterns ≡ 1024 → reference ≡ pattern_of ptype r → z ≡ read_as ptype (pattern w)
    → z ≡ wrap ptype (block_item ptype width bytes i +ℤ r)
sum_of_word pattern ptype T lanes width patterns bytes reference r i w z shape bits narrow h is each long same read =
    let item = unpacked_item T lanes width (word_at T bytes) i in
    let sum = sym (pattern_at_read pattern patterns i w (rw long h) is) ∙ (each i h ∙ ap (λ (n : ℕ). (item + n) % 2 ^ T) same) in
    read ∙ sum_of_block ptype T lanes width bytes i r (pattern w) shape bits narrow sum

-- ---- items by their blocks
-- an item that was made of an integer in a block's bytes
pub decoded_read : (item : ℕ → ℤ → ℤ) (ptype : PType) (blocks : Blocks) (packed block : List ℕ) (j start width q p : ℕ) (z : ℤ) → start ≡ blocks.start j → width ≡ blocks.width j → block ≡ between start (start + 128 * width) packed → q < 1024 → p ≡ 1024 * j + q
    → z ≡ item j (block_item ptype width block q) → z ≡ decoded_item item ptype blocks packed p
unfolding decoded_item
decoded_read item ptype blocks packed block j start width q p z start_is width_is bytes_is h is read =
    let place : j ≡ p / 1024 = omega arith in
    read ∙ (ap (item j) (item_read ptype blocks packed block j start width q p (block_item ptype width block q) start_is width_is bytes_is h is refl)
    ∙ ap (λ n. item n (item_of_blocks ptype blocks packed p)) place)

-- what is added to an integer of a block
pub plus_some : (ptype : PType) (references : List ℤ) (j : ℕ) (r z : ℤ) → (let some : Option ℤ = Some r in some) ≡ block_reference references j → wrap ptype (z +ℤ r) ≡ plus_block_reference ptype references j z
unfolding plus_block_reference
plus_some ptype references j r z e = ap (λ o. plus_if_some ptype o z) e

pub plus_none : (ptype : PType) (references : List ℤ) (j : ℕ) (z : ℤ) → (let none : Option ℤ = None in none) ≡ block_reference references j → z ≡ plus_block_reference ptype references j z
unfolding plus_block_reference
plus_none ptype references j z e = ap (λ o. plus_if_some ptype o z) e

pub ruleset sums = (plus_some, plus_none)

pub item_plus_none : (ptype : PType) (blocks : Blocks) (packed : List ℕ) (p : ℕ) → decoded_item (plus_block_reference ptype []) ptype blocks packed p ≡ item_of_blocks ptype blocks packed p
unfolding decoded_item plus_block_reference
item_plus_none ptype blocks packed p = ap (λ o. plus_if_some ptype o (item_of_blocks ptype blocks packed p)) (slice_get_past [] (min (p / 1024) 0) (omega arith))

-- a patch to which nothing is added
pub patch_plus_none : (ptype : PType) (j : ℕ) (patch : Option ℤ) → option_map (plus_block_reference ptype [] j) patch ≡ patch
unfolding plus_block_reference
patch_plus_none ptype j None = refl
patch_plus_none ptype j (Some z) = ap (λ o. Some (plus_if_some ptype o z)) (slice_get_past [] (min j 0) (omega arith))

-- one reference is that of all blocks
pub plus_the_one : (ptype : PType) (r z : ℤ) (j : ℕ) → plus_block_reference ptype (r ∷ []) j z ≡ wrap ptype (z +ℤ r)
unfolding plus_block_reference
plus_the_one ptype r z j = let first : min j 0 ≡ 0 = omega arith in ap (λ n. plus_if_some ptype (slice_get (r ∷ []) n) z) first

-- one for each is that of its own
pub plus_its_own : (ptype : PType) (references : List ℤ) (z : ℤ) (j : ℕ) → j < length references → plus_block_reference ptype references j z ≡ wrap ptype (z +ℤ get_or references j (pos 0))
unfolding plus_block_reference
plus_its_own ptype references z j h =
    let own : min j (length references - 1) ≡ j = omega arith in
    ap (λ n. plus_if_some ptype (slice_get references n) z) own ∙ ap (λ o. plus_if_some ptype o z) (slice_get-get_or references j (pos 0) h)

-- ---- columns
pub decoded_at : (valid : Bool) (item : ℤ → ℤ) (patch : Option ℤ) (stored z : ℤ) → z ≡ unwrap_or (option_map item patch) (item stored) → cond valid (Some z) None ≡ option_map item (if valid then Some (unwrap_or patch stored) else None)
decoded_at false item patch stored z e = refl
decoded_at true item None stored z e = ap (λ n. Some n) e
decoded_at true item (Some p) stored z e = ap (λ n. Some n) e

items_decoded : {X : Type 0} (value : X → ℤ) (item : ℕ → ℤ → ℤ) (parts : BitPackedParts) (blocks : Blocks) (items : List X) → IsTrue (covers parts.validity parts.len) → length items ≡ parts.len
    → ((i : ℕ) → i < parts.len → value_at value items i ≡ unwrap_or (option_map (item ((parts.offset + i) / 1024)) (patched_in parts.patches i)) (item ((parts.offset + i) / 1024) (stored parts blocks i)))
    → items_of parts.validity (map value items) ≡ tabulate (λ i. option_map (item ((parts.offset + i) / 1024)) (packed_item parts blocks i)) parts.len
unfolding value_at packed_item
items_decoded value item parts blocks items covered long each =
    let size : length (map value items) ≡ parts.len = length-map items value ∙ long in
    let covered_too : IsTrue (covers parts.validity (length (map value items))) = rw size covered in
    fill_by_all (λ i. option_map (item ((parts.offset + i) / 1024)) (packed_item parts blocks i)) (items_of parts.validity (map value items)) parts.len None (length-items_of parts.validity (map value items) covered_too ∙ size)
    (λ i h. get_or-items_of parts.validity (map value items) i (pos 0) covered_too (rw size h) ∙ decoded_at (is_valid_at parts.validity i) (item ((parts.offset + i) / 1024)) (patched_in parts.patches i) (stored parts blocks i) _ (each i h))

-- an item that was read from the blocks, whose type is that of the parts
pub stored_by_type : (item : ℕ → ℤ → ℤ) (ptype : PType) (parts : BitPackedParts) (blocks : Blocks) (i : ℕ) → parts.ptype ≡ ptype → decoded_item item ptype blocks parts.packed (parts.offset + i) ≡ item ((parts.offset + i) / 1024) (stored parts blocks i)
unfolding decoded_item
stored_by_type item ptype parts blocks i typed = ap (λ t. item ((parts.offset + i) / 1024) (item_of_blocks t blocks parts.packed (parts.offset + i))) (sym typed)

pub map-table : {A B : Type 0} (g : A → B) (h : ℕ → A) (n : ℕ) (d : A) → map g (tabulate h n) ≡ tabulate (λ i. g (h i)) n
map-table g h n d =
    fill_by_all (λ i. g (h i)) (map g (tabulate h n)) n (g d) (length-map (tabulate h n) g ∙ length-table h n)
    (λ i l. get_or-map g (tabulate h n) i d (g d) (rw (length-table h n) l) ∙ ap g (get_or-table h n i d l))

same_added : (item : ℤ → ℤ) (ptype : PType) (r : ℤ) → ((z : ℤ) → item z ≡ wrap ptype (z +ℤ r)) → (x : Option ℤ) → option_map item x ≡ plus_reference ptype r x
same_added item ptype r each None = refl
same_added item ptype r each (Some z) = ap (λ n. Some n) (each z)

-- one reference is added to all items
pub global_sums : (item : ℕ → ℤ → ℤ) (ptype : PType) (r : ℤ) (parts : BitPackedParts) (blocks : Blocks) → parts.ptype ≡ ptype → ((j : ℕ) (z : ℤ) → item j z ≡ wrap ptype (z +ℤ r))
    → decoded_column item parts blocks ≡ global_for r (column_of_packed parts blocks)
global_sums item ptype r parts blocks typed each =
    let items = packed_item parts blocks in
    let same = same_tables (λ i. option_map (item ((parts.offset + i) / 1024)) (items i)) (λ i. plus_reference parts.ptype r (items i)) parts.len
    (λ i h. same_added (item ((parts.offset + i) / 1024)) ptype r (each ((parts.offset + i) / 1024)) (items i) ∙ ap (λ t. plus_reference t r (items i)) (sym typed)) in
    let with : List (Option ℤ) → Column = λ xs. record { dtype = (column_of_packed parts blocks).dtype; items = xs } in
    ap with (same ∙ sym (map-table (plus_reference parts.ptype r) items parts.len None))

-- to each item the reference of its block is added
pub block_sums : (item : ℕ → ℤ → ℤ) (ptype : PType) (references : List ℤ) (parts : BitPackedParts) (blocks : Blocks) → parts.ptype ≡ ptype → block_count parts ≤ length references
    → ((j : ℕ) (z : ℤ) → j < length references → item j z ≡ wrap ptype (z +ℤ get_or references j (pos 0)))
    → decoded_column item parts blocks ≡ chunked_for references parts.offset (column_of_packed parts blocks)
block_sums item ptype references parts blocks typed enough each =
    let items = packed_item parts blocks in
    let reference : ℕ → ℤ = λ i. get_or references ((parts.offset + i) / 1024) (pos 0) in
    let sum : ℕ → Option ℤ = λ i. plus_reference parts.ptype (reference i) (get_or (tabulate items parts.len) i None) in
    let same = same_tables (λ i. option_map (item ((parts.offset + i) / 1024)) (items i)) sum parts.len
    (λ i h.
    let inside : (parts.offset + i) / 1024 < length references = omega arith in
    same_added (item ((parts.offset + i) / 1024)) ptype (reference i) (λ z. each ((parts.offset + i) / 1024) z inside) (items i) ∙ (ap (λ t. plus_reference t (reference i) (items i)) (sym typed)
    ∙ ap (plus_reference parts.ptype (reference i)) (sym (get_or-table items parts.len i None h)))) in
    let with : List (Option ℤ) → Column = λ xs. record { dtype = (column_of_packed parts blocks).dtype; items = xs } in
    ap with (same ∙ ap (λ n. tabulate sum n) (sym (length-table items parts.len)))

-- nothing is added
pub none_sums : (ptype : PType) (parts : BitPackedParts) (blocks : Blocks) → decoded_column (plus_block_reference ptype []) parts blocks ≡ column_of_packed parts blocks
none_sums ptype parts blocks =
    let items = packed_item parts blocks in
    let same = same_tables (λ i. option_map (plus_block_reference ptype [] ((parts.offset + i) / 1024)) (items i)) items parts.len (λ i h. patch_plus_none ptype ((parts.offset + i) / 1024) (items i)) in
    let with : List (Option ℤ) → Column = λ xs. record { dtype = (column_of_packed parts blocks).dtype; items = xs } in
    ap with same
