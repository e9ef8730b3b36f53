-- Items less the references of their blocks, block by block.
use Rattle.std.proofs.Common.{◌≡◌, ℕ, ℤ, pos, ◌+◌, ◌-◌, ◌*◌, ◌/◌, ◌<◌, Bool, true, false, cond, not, IsTrue, List, [], length, map, take, drop, get_or, min, Option, Some, None, is_none, option_map, refl, ap, sym, ◌∙◌, arith, zero-add}
use Rattle.std.proofs.lemmas.List.{ext_get_or, get_or-map, get_or-take, get_or-drop, length-map, length-take, length-drop}
use Rattle.std.proofs.lemmas.List.FromFn.{fill_by_all, get_or-map-range_with_len, length-map-range_with_len}
use Rattle.std.specs.List.{list_all}
use Rattle.fl_types.specs.declared.dtype.PType.{PType}
use Rattle.fl_types.specs.declared.validity.Validity.{Validity}
use Rattle.fl_types.specs.Integers.{fits, wrap}
use Rattle.fl_types.specs.Validities.{covers, is_valid_at, items_of}
use Rattle.fl_column.specs.Columns.{option_all}
use Rattle.fl_column.proofs.ItemLaws.{get_or-items_of, length-items_of}
use Rattle.fl_column.proofs.ListLaws.{all_at, all_from}
use Rattle.fl_codec.specs.Chunks.{chunk}
use Rattle.fl_statistics.specs.Differences.{difference, less_references, slot_of}
use Rattle.fl_statistics.proofs.Signs.{difference_fits, fitting, minus_none}

pub length-less : (t : PType) (one : ℤ) (references : List ℤ) (items : List (Option ℤ)) → length (less_references t one references items) ≡ length items
unfolding less_references
length-less t one references items = length-map-range_with_len (λ i. option_map (difference t (get_or references (i / 1024) one)) (get_or items i None)) 0 (length items)

pub get_or-less : (t : PType) (one : ℤ) (references : List ℤ) (items : List (Option ℤ)) (i : ℕ) → i < length items → get_or (less_references t one references items) i None ≡ option_map (difference t (get_or references (i / 1024) one)) (get_or items i None)
unfolding less_references
get_or-less t one references items i h = get_or-map-range_with_len (λ k. option_map (difference t (get_or references (k / 1024) one)) (get_or items k None)) 0 (length items) i i None h (zero-add i)

-- ---- one block
-- an item of a block
pub chunk_read : (items : List (Option ℤ)) (block q : ℕ) → q < 1024 → get_or (chunk block items) q None ≡ get_or items (1024 * block + q) None
chunk_read items block q h = get_or-take (1024 * (block + 1) - 1024 * block) (drop (1024 * block) items) q None (omega arith) ∙ get_or-drop (1024 * block) items q None

pub length-chunk : (items : List (Option ℤ)) (block : ℕ) → length (chunk block items) ≡ min (length items - 1024 * block) 1024
length-chunk items block = omega (arith, length-take (1024 * (block + 1) - 1024 * block) (drop (1024 * block) items), length-drop (1024 * block) items)

-- ---- nulls
turned_null : (f : ℤ → ℤ) (item : Option ℤ) → is_none (option_map f item) ≡ is_none item
turned_null f None = refl
turned_null f (Some z) = refl

-- a null stays a null
less_null : (t : PType) (one : ℤ) (references : List ℤ) (items : List (Option ℤ)) (i : ℕ) → i < length items → is_none (get_or (less_references t one references items) i None) ≡ is_none (get_or items i None)
less_null t one references items i h = ap is_none (get_or-less t one references items i h) ∙ turned_null (difference t (get_or references (i / 1024) one)) (get_or items i None)

null_by : (b : Bool) (z : ℤ) → not b ≡ is_none (cond b (Some z) None)
null_by true z = refl
null_by false z = refl

-- an item is null where it is not valid
item_null : (v : Validity) (slots : List ℤ) (i : ℕ) → IsTrue (covers v (length slots)) → i < length slots → not (is_valid_at v i) ≡ is_none (get_or (items_of v slots) i None)
item_null v slots i covered h = null_by (is_valid_at v i) (get_or slots i (pos 0)) ∙ ap is_none (sym (get_or-items_of v slots i (pos 0) covered h))

-- the same in a block
pub null_read : (t : PType) (one : ℤ) (references : List ℤ) (v : Validity) (slots : List ℤ) (block q : ℕ) → IsTrue (covers v (length slots)) → q < 1024 → 1024 * block + q < length slots
    → is_none (get_or (chunk block (less_references t one references (items_of v slots))) q None) ≡ not (is_valid_at v (1024 * block + q))
null_read t one references v slots block q covered inside h =
    let items = items_of v slots in
    let count : length items ≡ length slots = length-items_of v slots covered in
    ap is_none (chunk_read (less_references t one references items) block q inside)
    ∙ (less_null t one references items (1024 * block + q) (omega arith) ∙ sym (item_null v slots (1024 * block + q) covered h))

kept_slot : (b : Bool) (f : ℤ → ℤ) (z : ℤ) → cond b (f z) (pos 0) ≡ slot_of (option_map f (cond b (Some z) None))
kept_slot true f z = refl
kept_slot false f z = refl

-- what is written of a block, less its reference, with 0 in the place of a null
pub slots_of_block : (t : PType) (one : ℤ) (references : List ℤ) (v : Validity) (slots written less cleared : List ℤ) (block count : ℕ) (reference : ℤ) → IsTrue (covers v (length slots)) → 1024 * block < length slots → count ≡ min (length slots - 1024 * block) 1024
    → reference ≡ get_or references block one → length cleared ≡ 1024
    → ((q : ℕ) → q < 1024 → 1024 * block + q < length slots → get_or written q (pos 0) ≡ get_or slots (1024 * block + q) (pos 0))
    → ((q : ℕ) → q < 1024 → get_or less q (pos 0) ≡ difference t reference (get_or written q (pos 0)))
    → ((q : ℕ) → q < count → get_or cleared q (pos 0) ≡ cond (is_valid_at v (1024 * block + q)) (get_or less q (pos 0)) (pos 0))
    → take count cleared ≡ map slot_of (chunk block (less_references t one references (items_of v slots)))
slots_of_block t one references v slots written less cleared block count reference covered begun counted is whole writes subtracts clears =
    let items = items_of v slots in
    let all = less_references t one references items in
    let long : length items ≡ length slots = length-items_of v slots covered in
    let same : length all ≡ length items = length-less t one references items in
    let size : length (chunk block all) ≡ count = length-chunk all block ∙ omega arith in
    let taken : length (take count cleared) ≡ count = omega (arith, length-take count cleared) in
    ext_get_or (pos 0) (take count cleared) (map slot_of (chunk block all)) (taken ∙ sym (length-map (chunk block all) slot_of ∙ size))
    (λ q h.
    let inside : q < count = omega arith in
    let i = 1024 * block + q in
    let valid : Bool = is_valid_at v i in
    let place : i / 1024 ≡ block = omega arith in
    let turn : ℤ → ℤ = difference t reference in
    let z = get_or slots i (pos 0) in
    let left : get_or (take count cleared) q (pos 0) ≡ cond valid (turn z) (pos 0) =
    get_or-take count cleared q (pos 0) inside ∙ (clears q inside ∙ ap (λ y. cond valid y (pos 0)) (subtracts q (omega arith) ∙ ap turn (writes q (omega arith) (omega arith)))) in
    let item : get_or (chunk block all) q None ≡ option_map turn (cond valid (Some z) None) =
    chunk_read all block q (omega arith) ∙ (get_or-less t one references items i (omega arith)
    ∙ (ap (λ r. option_map (difference t r) (get_or items i None)) (ap (λ k. get_or references k one) place ∙ sym is)
    ∙ ap (option_map turn) (get_or-items_of v slots i (pos 0) covered (omega arith)))) in
    left ∙ (kept_slot valid turn z ∙ sym (get_or-map slot_of (chunk block all) q None (pos 0) (omega arith) ∙ ap slot_of item)))

-- ---- all items
one_less_none : (t : PType) (item : Option ℤ) → option_all (fits t) item ≡ true → option_map (difference t (pos 0)) item ≡ item
one_less_none t None e = refl
one_less_none t (Some z) e = ap (λ y. Some y) (ap (λ x. wrap t x) (minus_none z) ∙ fitting t z e)

-- items less 0 are themselves
pub less_none : (t : PType) (items : List (Option ℤ)) → list_all (option_all (fits t)) items ≡ true → less_references t (pos 0) [] items ≡ items
unfolding less_references
less_none t items fit =
    sym (fill_by_all (λ i. option_map (difference t (pos 0)) (get_or items i None)) items (length items) None refl
    (λ i h. sym (one_less_none t (get_or items i None) (all_at (option_all (fits t)) items i None fit h))))

one_fits : (t : PType) (reference : ℤ) (item : Option ℤ) → option_all (fits t) (option_map (difference t reference) item) ≡ true
one_fits t reference None = refl
one_fits t reference (Some z) = difference_fits t reference z

-- differences are integers of the type
pub less_fits : (t : PType) (one : ℤ) (references : List ℤ) (items : List (Option ℤ)) → list_all (option_all (fits t)) (less_references t one references items) ≡ true
less_fits t one references items =
    all_from (option_all (fits t)) (less_references t one references items) None
    (λ i h. ap (option_all (fits t)) (get_or-less t one references items i (rw length-less at h)) ∙ one_fits t (get_or references (i / 1024) one) (get_or items i None))
