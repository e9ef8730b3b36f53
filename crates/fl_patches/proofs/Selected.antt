-- Patches of selected items.
use Rattle.std.proofs.Common.{◌≡◌, ℕ, ℤ, pos, zero, suc, ◌+◌, ◌<◌, true, List, [], ◌∷◌, length, map, get_or, nat_lt, Option, Some, None, Result, Ok, Err, IfOk, option_map, option_and_then, unsigned_abs, refl, ap, subst, ◌∙◌, sym, arith}
use Rattle.std.proofs.lemmas.Bool.{and_from, and_parts, le-leb, lt-ltb, ltb-true}
use Rattle.std.proofs.lemmas.List.{length-map}
use Rattle.std.specs.List.{list_all}
use Rattle.fl_types.specs.Integers.{smallest_type}
use Rattle.fl_types.specs.Refusals.{Answers}
use Rattle.fl_types.specs.Validities.{full_validity, nullability_of}
use Rattle.fl_types.specs.declared.dtype.Nullability.{Nullability}
use Rattle.fl_types.specs.declared.dtype.PType.{PType}
use Rattle.fl_types.specs.declared.error.FastLanesError.{FastLanesError}
use Rattle.fl_types.specs.declared.validity.Validity.TheVariants as valid
use Rattle.fl_column.specs.Columns.{PrimitiveParts}
use Rattle.fl_column.specs.Selections.{positions_in}
use Rattle.fl_column.proofs.SelectionLaws.{ok_positions}
use Rattle.fl_column.specs.Numbers.{numbers}
use Rattle.fl_patches.specs.PatchMaps.{AreFound, AreOrdered, ranks_at, ArePatches, PatchesParts, is_index_within, is_rising, patched, patches_at, patches_of_items, patched_in_take, places_from, select_patches, rank_of, refusal_of, values_in}
use Rattle.fl_column.proofs.FullLaws.{no_null}
use Rattle.fl_column.proofs.NumberLaws.{smallest_unsigned}
use Rattle.fl_patches.proofs.Parts.{AreSound, patches_none, patches_some, unrefused_parts}
use Rattle.fl_patches.proofs.Sparse.{found_at, found_ordered, found_patches, numbers_of_places, ranked_values, ranks_below, places_below, places_even, places_rise}

-- patches with these places and values
abbrev pub picked : ℕ → PType → Nullability → List ℕ → List ℤ → PatchesParts
picked len ptype nullability places values = record {
  array_len = len;
  offset = 0;
  indices = record { ptype = smallest_type len; slots = map pos places; validity = valid.NonNullable };
  values = record { ptype = ptype; slots = values; validity = full_validity nullability };
  chunk_offsets = None;
}

all_within : (places : List ℕ) (len : ℕ) → list_all (λ place. nat_lt place len) places ≡ true → list_all (is_index_within 0 len) places ≡ true
all_within [] len below = refl
all_within (place ∷ places) len below =
    let parts = and_parts (nat_lt place len) _ below in
    let low = ltb-true place len parts.0 in
    and_from _ _ (and_from _ _ (le-leb 0 place (omega arith)) (lt-ltb place (0 + len) (omega arith))) (all_within places len parts.1)

pub sound_picked : (len : ℕ) (ptype : PType) (nullability : Nullability) (places : List ℕ) (values : List ℤ) → is_rising places ≡ true → list_all (λ place. nat_lt place len) places ≡ true → length values ≡ length places → 0 < length places
    → AreSound (picked len ptype nullability places values)
sound_picked len ptype nullability places values rise below even some = record {
  typed = smallest_unsigned len;
  even = length-map places (λ n. pos n) ∙ sym even;
  some = omega (arith, length-map places (λ n. pos n));
  rising = ap is_rising (numbers_of_places places) ∙ rise;
  within = ap (list_all (is_index_within 0 len)) (numbers_of_places places) ∙ all_within places len below;
  valued = no_null nullability values;
}

-- nothing speaks against what was found in order
pub picked_accepted : (len count : ℕ) (ptype : PType) (nullability : Nullability) (places ranks : List ℕ) (value : ℕ → ℤ) → AreOrdered places ranks len count → 0 < length places
    → refusal_of (picked len ptype nullability places (map value ranks)) ≡ None
picked_accepted len count ptype nullability places ranks value ordered some =
    unrefused_parts (picked len ptype nullability places (map value ranks)) (sound_picked len ptype nullability places (map value ranks) ordered.rising ordered.below (length-map ranks value ∙ ordered.even) some) refl

pub picked_at : (len : ℕ) (ptype : PType) (nullability : Nullability) (places : List ℕ) (values : List ℤ) → 0 < length places → patches_at len ptype nullability places values ≡ Some (picked len ptype nullability places values)
picked_at len ptype nullability [] values some = absurd (omega arith)
picked_at len ptype nullability (place ∷ places) values some = refl

-- patches of the arrays that were made
pub picked_is : (len : ℕ) (ptype : PType) (nullability : Nullability) (places : List ℕ) (slots : List ℤ) (indices values : PrimitiveParts)
    → indices ≡ record { ptype = smallest_type len; slots = map pos places; validity = valid.NonNullable } → values ≡ record { ptype = ptype; slots = slots; validity = full_validity nullability }
    → picked len ptype nullability places slots ≡ record { array_len = len; offset = 0; indices = indices; values = values; chunk_offsets = None }
picked_is len ptype nullability places slots indices values is vs = cc

items_by_places : (ptype : PType) (nullability : Nullability) (items : List (Option ℤ)) (places : List ℕ) → places_from 0 items ≡ places → ArePatches (patches_at (length items) ptype nullability places (values_in items)) (length items) (λ j. get_or items j None)
items_by_places ptype nullability items [] e =
    patches_none (length items) (λ j. get_or items j None) (λ j h. sym (found_at 0 j items) ∙ ap (λ ps. option_map (λ k. get_or (values_in items) k (pos 0)) (rank_of (0 + j) ps)) e)
items_by_places ptype nullability items (place ∷ places) e =
    let below = ap (list_all (λ place'. nat_lt place' (length items))) (sym e) ∙ places_below 0 (length items) items (omega arith) in
    let sound = sound_picked (length items) ptype nullability (place ∷ places) (values_in items) (ap is_rising (sym e) ∙ places_rise 0 items) below (places_even 0 items ∙ ap length e) (omega arith) in
    patches_some (picked (length items) ptype nullability (place ∷ places) (values_in items)) (λ j. get_or items j None) sound
    (λ j h. ap (λ ps. option_map (λ k. get_or (values_in items) k (pos 0)) (rank_of (0 + j) ps)) (numbers_of_places (place ∷ places) ∙ sym e) ∙ found_at 0 j items)

-- patches of items are those of the map that gives each position its item
pub items_are : (ptype : PType) (nullability : Nullability) (items : List (Option ℤ)) → ArePatches (patches_of_items ptype nullability items) (length items) (λ j. get_or items j None)
items_are ptype nullability items = items_by_places ptype nullability items (places_from 0 items) refl

-- the same of maps that agree
pub same_maps : (patches : Option PatchesParts) (len : ℕ) (at other : ℕ → Option ℤ) → ((i : ℕ) → i < len → at i ≡ other i) → ArePatches patches len at → ArePatches patches len other
same_maps patches len at other same are = record {
  values = (λ i h. are.values i h ∙ same i h);
  none = (λ h i k. sym (same i k) ∙ are.none.0 h i k, λ h. are.none.1 (λ i k. same i k ∙ h i k));
}

-- what holds of an answer holds of what it is
pub answered : {A : Type 0} (r : Result A FastLanesError) (m : Result A FastLanesError) (P : A → Type 0) → IfOk m P → Answers (λ a. a) r m → IfOk r P
answered (Ok x) m P holds is = let same : m ≡ Ok x = is in subst (λ a. IfOk a P) same holds
answered (Err e) m P holds is = tt

-- ---- patches that were found at positions
-- they are in order
pub found_in_order : (p : PatchesParts) (positions : List (Option ℕ)) (places ranks : List ℕ) (len : ℕ) → AreSound p → AreFound places ranks (ranks_at p.offset (numbers p.indices) positions) → len ≡ length positions → AreOrdered places ranks len (length p.values.slots)
found_in_order p positions places ranks len s found all =
    let count : length (numbers p.indices) ≡ length p.values.slots = length-map p.indices.slots unsigned_abs ∙ s.even in
    let ordered : ℕ → Type 0 = λ n. AreOrdered places ranks len n in
    subst ordered count (found_ordered places ranks (ranks_at p.offset (numbers p.indices) positions) len (length (numbers p.indices)) found (all ∙ sym (length-map positions _)) (ranks_below p.offset (numbers p.indices) positions))

-- with the values of their ranks they are those of the items
pub found_selected : (p : PatchesParts) (positions : List (Option ℕ)) (places ranks : List ℕ) (len : ℕ) → AreFound places ranks (ranks_at p.offset (numbers p.indices) positions) → len ≡ length positions
    → patches_at len p.values.ptype (nullability_of p.values.validity) places (map (λ rank. get_or p.values.slots rank (pos 0)) ranks) ≡ select_patches positions p
found_selected p positions places ranks len found all =
    let value : ℕ → ℤ = λ rank. get_or p.values.slots rank (pos 0) in
    found_patches p.values.ptype (nullability_of p.values.validity) value places ranks (ranks_at p.offset (numbers p.indices) positions) len found (all ∙ sym (length-map positions _))
    ∙ ap (patches_of_items p.values.ptype (nullability_of p.values.validity)) (ranked_values p positions)

-- ---- take
item_of_take : (indices : List (Option ℤ)) (p : PatchesParts) (j : ℕ) → get_or (map (option_and_then (patched p)) (map (option_map unsigned_abs) indices)) j None ≡ patched_in_take indices p j
item_of_take [] p j = refl
item_of_take (None ∷ indices) p zero = refl
item_of_take (Some z ∷ indices) p zero = refl
item_of_take (index ∷ indices) p (suc j) = item_of_take indices p j

-- patches of what indices name are those of the named positions
pub take_are : (indices : List (Option ℤ)) (p : PatchesParts) (positions : List (Option ℕ)) → positions_in p.array_len indices ≡ Ok positions → ArePatches (select_patches positions p) (length indices) (patched_in_take indices p)
take_are indices p positions e =
    let named = (ok_positions p.array_len indices positions e).1 in
    let items = map (option_and_then (patched p)) (map (option_map unsigned_abs) indices) in
    let are = items_are p.values.ptype (nullability_of p.values.validity) items in
    let len : length items ≡ length indices = length-map (map (option_map unsigned_abs) indices) (option_and_then (patched p)) ∙ length-map indices (option_map unsigned_abs) in
    let of_len : ℕ → Type 0 = λ n. ArePatches (patches_of_items p.values.ptype (nullability_of p.values.validity) items) n (patched_in_take indices p) in
    let holds : ArePatches (select_patches (map (option_map unsigned_abs) indices) p) (length indices) (patched_in_take indices p) =
    subst of_len len (same_maps (patches_of_items p.values.ptype (nullability_of p.values.validity) items) (length items) (λ j. get_or items j None) (patched_in_take indices p) (λ j h. item_of_take indices p j) are) in
    let of_positions : List (Option ℕ) → Type 0 = λ ps. ArePatches (select_patches ps p) (length indices) (patched_in_take indices p) in
    subst of_positions named holds

-- ---- filter
item_of_filter : (p : PatchesParts) (positions : List ℕ) (j : ℕ) → j < length positions → get_or (map (option_and_then (patched p)) (map (λ i. Some i) positions)) j None ≡ patched p (get_or positions j 0)
item_of_filter p [] j h = absurd (omega arith)
item_of_filter p (i ∷ positions) zero h = refl
item_of_filter p (i ∷ positions) (suc j) h = item_of_filter p positions j (omega arith)

-- patches at rising positions are those of the positions
pub filter_are : (p : PatchesParts) (positions : List ℕ) → ArePatches (select_patches (map (λ i. Some i) positions) p) (length positions) (λ j. patched p (get_or positions j 0))
filter_are p positions =
    let items = map (option_and_then (patched p)) (map (λ i. Some i) positions) in
    let patches = patches_of_items p.values.ptype (nullability_of p.values.validity) items in
    let len : length items ≡ length positions = length-map (map (λ i. Some i) positions) (option_and_then (patched p)) ∙ length-map positions _ in
    let of_len : ℕ → Type 0 = λ n. ArePatches patches n (λ j. patched p (get_or positions j 0)) in
    subst of_len len (same_maps patches (length items) (λ j. get_or items j None) (λ j. patched p (get_or positions j 0)) (λ j h. item_of_filter p positions j (omega arith)) (items_are p.values.ptype (nullability_of p.values.validity) items))
