-- Items of packed blocks at positions.
use Rattle.std.proofs.Common.{◌≡◌, ℕ, ℤ, pos, negsuc, zero, suc, ◌+◌, ◌*◌, ◌/◌, ◌%◌, ◌<◌, ◌≤◌, ◌++◌, Bool, true, false, List, [], ◌∷◌, length, map, take, get_or, set, nat_lt, unsigned_abs, int_le, IsTrue, Option, Some, None, refl, ap, sym, ◌∙◌, arith, inl, inr, length-append, subst}
use Rattle.std.specs.List.{list_all}
use Rattle.std.specs.Prelude.{if◌then◌else◌, Ok, Err}
use Rattle.std.proofs.lemmas.List.{append-nil, length-map, take_more, take_all}
use Rattle.std.proofs.lemmas.Bool.{cases_lt, ltb-true}
use Rattle.fl_bitpacking.proofs.Slices.{value_added, value_before}
use Rattle.fl_types.specs.declared.validity.Validity.{Validity}
use Rattle.fl_types.specs.Bits.{between}
use Rattle.fl_types.specs.Validities.{covers, is_valid_at, items_of}
use Rattle.fl_column.proofs.ItemLaws.{length-items_of, null_item_read, valid_item_read}
use Rattle.fl_types.specs.declared.dtype.PType.{PType}
use Rattle.fl_types.specs.declared.error.FastLanesError.TheVariants.{IndexOutOfBounds}
use Rattle.fl_column.specs.Operations.{is_in_range}
use Rattle.fl_column.proofs.ListLaws.{all_fails, all_more, and_first, and_second}
use Rattle.fl_bitpacking.specs.Blocks.{Blocks, block_item, blocks_of, bytes_of_block, item_of_blocks, value_at}
use Rattle.fl_bitpacking.specs.Taken.{AreBelow, AreNamed, ArePositions, AreTaken, named_positions, named_positions_in}
use Rattle.fl_bitpacking.specs.declared.blocks.PackedBlocks.{PackedBlocks}
use Rattle.fl_bitpacking.proofs.Natives.{value_at_set_other, value_filled}
use Rattle.fl_bitpacking.proofs.Joined.{item_of_block}

-- ---- runs
pub taken_none : {X : Type 0} (value : X → ℤ) (ptype : PType) (bytes : List ℕ) (blocks : PackedBlocks) (positions : List ℕ) (items : List X) → AreTaken value ptype bytes blocks positions 0 items
taken_none value ptype bytes blocks positions items = record { each = λ i h. absurd (omega (arith, h)) }

-- one more item that is written
pub taken_more : {X : Type 0} (value : X → ℤ) (ptype : PType) (bytes : List ℕ) (blocks : PackedBlocks) (positions : List ℕ) (k : ℕ) (items : List X) (item : X) → AreTaken value ptype bytes blocks positions k items → k < length items
    → value item ≡ item_of_blocks ptype (blocks_of blocks.widths) bytes (blocks.offset + get_or positions k 0) → AreTaken value ptype bytes blocks positions (k + 1) (set items k item)
taken_more value ptype bytes blocks positions k items item taken inside is = record {
  each = value_filled value (λ i. item_of_blocks ptype (blocks_of blocks.widths) bytes (blocks.offset + get_or positions i 0)) items k item inside taken.each is;
}

-- an item of a block that was looked up
pub item_of_run : (ptype : PType) (blocks : Blocks) (packed block : List ℕ) (width j p : ℕ) → width ≡ blocks.width j → block ≡ bytes_of_block blocks packed j → p / 1024 ≡ j
    → block_item ptype width block (p % 1024) ≡ item_of_blocks ptype blocks packed p
item_of_run ptype blocks packed block width j p width_is block_is here =
    rw (width_is, block_is) (sym (item_of_block ptype blocks packed j (p % 1024) p (omega arith) (omega arith)))

-- ---- positions
named_append : (xs ys : List (Option ℤ)) → named_positions (xs ++ ys) ≡ named_positions xs ++ named_positions ys
named_append [] ys = refl
named_append (None ∷ xs) ys = named_append xs ys
named_append (Some z ∷ xs) ys = ap (λ ps. unsigned_abs z ∷ ps) (named_append xs ys)

-- the positions of one more index
pub named_more : (xs : List (Option ℤ)) (k : ℕ) (x : Option ℤ) → k < length xs → get_or xs k None ≡ x → named_positions (take (k + 1) xs) ≡ named_positions (take k xs) ++ named_positions (x ∷ [])
named_more xs k x h is = ap named_positions (take_more xs k None h ∙ ap (λ y. take k xs ++ y ∷ []) is) ∙ named_append (take k xs) (x ∷ [])

items_long : {A : Type 0} (f : A → ℤ) (v : Validity) (xs : List A) → IsTrue (covers v (length xs)) → length (items_of v (map f xs)) ≡ length xs
items_long f v xs covered =
    let size = length-map xs f in
    let covered_too : IsTrue (covers v (length (map f xs))) = rw size covered in
    length-items_of v (map f xs) covered_too ∙ size

pub position_added : {A : Type 0} (f : A → ℤ) (v : Validity) (xs : List A) (len k : ℕ) (old new : List ℕ) (x : A) (p : ℕ) → IsTrue (covers v (length xs)) → k < length xs → is_valid_at v k ≡ true → x ≡ get_or xs k x
    → IsTrue (is_in_range len (Some (f x))) → p ≡ unsigned_abs (f x) → new ≡ old ++ p ∷ [] → AreNamed len (items_of v (map f xs)) k old → AreNamed len (items_of v (map f xs)) (k + 1) new
position_added f v xs len k old new x p covered h valid x_is fits p_is new_is so_far =
    let items = items_of v (map f xs) in
    let here : get_or items k None ≡ Some (f x) = valid_item_read f v xs k x covered h valid x_is in
    let inside : k < length items = rw (items_long f v xs covered) h in
    let fits_too : is_in_range len (get_or items k None) ≡ true = rw here fits in
    record {
      range = all_more (is_in_range len) items k None inside so_far.range fits_too;
      named = new_is ∙ (ap (λ ps. ps ++ p ∷ []) so_far.named ∙ (ap (λ q. named_positions (take k items) ++ q ∷ []) p_is ∙ sym (named_more items k (Some (f x)) inside here)));
    }

pub position_skipped : {A : Type 0} (f : A → ℤ) (v : Validity) (xs : List A) (len k : ℕ) (old : List ℕ) → IsTrue (covers v (length xs)) → k < length xs → is_valid_at v k ≡ false
    → AreNamed len (items_of v (map f xs)) k old → AreNamed len (items_of v (map f xs)) (k + 1) old
position_skipped f v xs len k old covered h null so_far =
    let items = items_of v (map f xs) in
    let here : get_or items k None ≡ None = null_item_read f v xs k covered h null in
    let inside : k < length items = rw (items_long f v xs covered) h in
    let fits_too : is_in_range len (get_or items k None) ≡ true = rw here refl in
    record {
      range = all_more (is_in_range len) items k None inside so_far.range fits_too;
      named = so_far.named ∙ (sym (append-nil (named_positions (take k items))) ∙ sym (named_more items k None inside here));
    }

pub position_refused : {A : Type 0} (f : A → ℤ) (v : Validity) (xs : List A) (zs : List ℤ) (len k : ℕ) (x : A) → map f xs ≡ zs → IsTrue (covers v (length xs)) → k < length xs → is_valid_at v k ≡ true → x ≡ get_or xs k x
    → is_in_range len (Some (f x)) ≡ false → named_positions_in len (items_of v zs) ≡ Err IndexOutOfBounds
position_refused f v xs zs len k x is covered h valid x_is beyond =
    let items = items_of v (map f xs) in
    let here : get_or items k None ≡ Some (f x) = valid_item_read f v xs k x covered h valid x_is in
    let inside : k < length items = rw (items_long f v xs covered) h in
    let fails : is_in_range len (get_or items k None) ≡ false = rw here beyond in
    rw (← is, all_fails (is_in_range len) items k None inside fails) refl

pub positions_all : {A : Type 0} (f : A → ℤ) (v : Validity) (xs : List A) (zs : List ℤ) (len k : ℕ) (positions : List ℕ) → map f xs ≡ zs → IsTrue (covers v (length xs)) → length xs ≤ k
    → AreNamed len (items_of v (map f xs)) k positions → named_positions_in len (items_of v zs) ≡ Ok positions
positions_all f v xs zs len k positions is covered full so_far =
    let items = items_of v (map f xs) in
    let all : take k items ≡ items = take_all k items (rw (items_long f v xs covered) full) in
    let range : list_all (is_in_range len) items ≡ true = rw all at so_far.range in
    let named : positions ≡ named_positions items = rw all at so_far.named in
    rw (← is, range, named) refl

-- ---- what the indices that are in range name
pub in_range_of : (len : ℕ) (z : ℤ) → is_in_range len (Some z) ≡ true → unsigned_abs z < len
in_range_of len (pos n) h = ltb-true n len (and_second (int_le (pos 0) (pos n)) (nat_lt n len) h)
in_range_of len (negsuc n) h = cc

named_below_each : (len : ℕ) (indices : List (Option ℤ)) → list_all (is_in_range len) indices ≡ true → (i : ℕ) → i < length (named_positions indices) → get_or (named_positions indices) i 0 < len
named_below_each len [] all i h = absurd (omega (arith, h))
named_below_each len (None ∷ indices) all i h = named_below_each len indices (and_second (is_in_range len None) (list_all (is_in_range len) indices) all) i h
named_below_each len (Some z ∷ indices) all zero h = in_range_of len z (and_first (is_in_range len (Some z)) (list_all (is_in_range len) indices) all)
named_below_each len (Some z ∷ indices) all (suc i) h = named_below_each len indices (and_second (is_in_range len (Some z)) (list_all (is_in_range len) indices) all) i (omega (arith, h))

named_few : (indices : List (Option ℤ)) → length (named_positions indices) ≤ length indices
named_few [] = omega arith
named_few (None ∷ indices) = let rest = named_few indices in omega arith
named_few (Some z ∷ indices) = let rest = named_few indices in omega arith

if_ok : {A E : Type 0} (b : Bool) (x y : A) (e : E) → (if b then Ok x else Err e) ≡ Ok y → (b ≡ true) × (x ≡ y)
if_ok true x y e h = (refl, cc)
if_ok false x y e h = cc

pub named_in : (len : ℕ) (indices : List (Option ℤ)) (positions : List ℕ) → named_positions_in len indices ≡ Ok positions → ArePositions len indices positions
named_in len indices positions h =
    let parts = if_ok (list_all (is_in_range len) indices) (named_positions indices) positions IndexOutOfBounds h in
    record {
      range = parts.0;
      named = sym parts.1;
      below = subst (AreBelow len) parts.1 (named_below_each len indices parts.0);
      few = subst (λ (ps : List ℕ). length ps ≤ length indices) parts.1 (named_few indices);
    }

-- ---- patches
-- the items that are not yet patched stay
pub rest_stays : {X : Type 0} (value : X → ℤ) (items : List X) (was : ℕ → ℤ) (k : ℕ) (item : X) → ((i : ℕ) → k ≤ i → value_at value items i ≡ was i) → (i : ℕ) → k + 1 ≤ i → value_at value (set items k item) i ≡ was i
rest_stays value items was k item rest i h = value_at_set_other value items k i item (λ e. absurd (omega (arith, e, h))) ∙ rest i (omega arith)

-- ---- items that are gathered
value_first : {X : Type 0} (value : X → ℤ) (x : X) → value_at value (x ∷ []) 0 ≡ value x
unfolding value_at
value_first value x = refl

pub gathered_more : {X : Type 0} (value : X → ℤ) (item : ℕ → ℤ) (old new : List X) (x : X) (k : ℕ) → length old ≡ k → new ≡ old ++ x ∷ [] → value x ≡ item k → ((i : ℕ) → i < k → value_at value old i ≡ item i)
    → (length new ≡ k + 1) × ((i : ℕ) → i < k + 1 → value_at value new i ≡ item i)
gathered_more value item old new x k long is read each =
    let grown = length-append old (x ∷ []) in
    let last : value_at value (old ++ x ∷ []) (length old + 0) ≡ value x = value_added value old (x ∷ []) 0 ∙ value_first value x in (
      rw is (omega arith),
      λ i h. elim (cases_lt i k) [
        | inl before ↦ rw is (value_before value old (x ∷ []) i (omega arith) ∙ each i before)
        | inr after ↦ (
            let here : length old + 0 ≡ i = omega arith in
            let same : k ≡ i = omega arith in
            rw is (subst (λ (j : ℕ). value_at value (old ++ x ∷ []) j ≡ item i) here (last ∙ (read ∙ ap item same))))
      ],
    )

-- the bytes of a block that was looked up
pub block_bytes : (blocks : Blocks) (packed block : List ℕ) (j start width : ℕ) → start ≡ blocks.start j → width ≡ blocks.width j → block ≡ between start (start + 128 * width) packed → block ≡ bytes_of_block blocks packed j
block_bytes blocks packed block j start width start_is width_is is = is ∙ rw (start_is, width_is) refl
