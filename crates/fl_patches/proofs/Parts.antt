-- What holds of the parts of patches.
use Rattle.std.proofs.Common.{◌≡◌, ℕ, ◌+◌, ◌-◌, ◌<◌, ◌&&◌, eqb, nat_le, nat_lt, unsigned_abs, if◌then◌else◌, Bool, true, false, not, List, length, ℤ, get_or, Option, Some, None, Result, Ok, IsTrue, refl, ap, ◌∙◌, sym, inl, inr, arith}
use Rattle.std.proofs.lemmas.Bool.{and_from, and_parts, cases_Bool, eq-eqb, eqb-true, false≢true, leb-true, lt-ltb, ltb-true, not-true, not_from_false, true≢false}
use Rattle.std.proofs.lemmas.List.{length-map}
use Rattle.fl_patches.proofs.Rising.{count_split, rank_found}
use Rattle.fl_types.specs.Validities.{covers, is_valid_at, items_of}
use Rattle.fl_types.specs.declared.validity.Validity.{Validity}
use Rattle.fl_column.proofs.ItemLaws.{get_or-items_of, length-items_of}
use Rattle.fl_column.proofs.ListLaws.{all_at, any_at}
use Rattle.std.specs.List.{list_all, list_any}
use Rattle.std.specs.Prelude.{is_none}
use Rattle.fl_types.specs.Types.{is_index_type}
use Rattle.fl_types.specs.declared.error.FastLanesError.{FastLanesError}
use Rattle.fl_types.specs.declared.error.FastLanesError.TheVariants.{PatchType, PatchLength, PatchContent}
use Rattle.fl_column.specs.Chunks.{chunk_count}
use Rattle.fl_column.specs.Columns.{PrimitiveParts, column_of_primitive, option_all}
use Rattle.fl_column.specs.Numbers.{numbers}
use Rattle.fl_patches.specs.PatchMaps.{ArePatches, PatchesParts, are_chunk_offsets, count_below, patched, is_index_within, is_rising, patch_contents_fit, patch_lengths_fit, patch_types_fit, refusal_of}

-- parts that nothing speaks against
pub record AreSound (p : PatchesParts) : Type 0 where
  pub typed : is_index_type (column_of_primitive p.indices).dtype ≡ true
  pub even : length p.indices.slots ≡ length p.values.slots
  pub some : 0 < length p.indices.slots
  pub rising : is_rising (numbers p.indices) ≡ true
  pub within : list_all (is_index_within p.offset p.array_len) (numbers p.indices) ≡ true
  pub valued : list_any is_none (column_of_primitive p.values).items ≡ false

unrefused : (types lengths contents : Bool) (a b d : FastLanesError) → (if not types then Some a else if not lengths then Some b else if not contents then Some d else None) ≡ None → (types ≡ true) × (lengths ≡ true) × (contents ≡ true)
unrefused true true true a b d e = (refl, refl, refl)
unrefused true true false a b d e = cc
unrefused true false c a b d e = cc
unrefused false l c a b d e = cc

pub sound : (p : PatchesParts) → refusal_of p ≡ None → AreSound p
sound p e =
    let fit = unrefused (patch_types_fit p) (patch_lengths_fit p) (patch_contents_fit p) PatchType PatchLength PatchContent e in
    let types = and_parts (is_index_type (column_of_primitive p.indices).dtype) _ fit.0 in
    let lengths = and_parts _ _ fit.1 in
    let more = and_parts _ _ lengths.1 in
    let contents = and_parts (is_rising (numbers p.indices)) _ fit.2 in
    let ranged = and_parts (list_all (is_index_within p.offset p.array_len) (numbers p.indices)) _ contents.1 in
    let rest = and_parts _ _ ranged.1 in
    record {
      typed = types.0;
      even = eqb-true (length p.indices.slots) (length p.values.slots) lengths.0;
      some = ltb-true 0 (length p.indices.slots) more.0;
      rising = contents.0;
      within = ranged.0;
      valued = not-true _ rest.0;
    }

-- chunk offsets that nothing speaks against
pub record AreSoundOffsets (p : PatchesParts) (offsets : PrimitiveParts) : Type 0 where
  pub long : length offsets.slots ≡ chunk_count p.array_len
  pub start : p.offset ≡ 0
  pub count : are_chunk_offsets (numbers p.indices) (numbers offsets) ≡ true

pub sound_offsets : (p : PatchesParts) (offsets : PrimitiveParts) → refusal_of p ≡ None → p.chunk_offsets ≡ Some offsets → AreSoundOffsets p offsets
sound_offsets p offsets e some =
    let fit = unrefused (patch_types_fit p) (patch_lengths_fit p) (patch_contents_fit p) PatchType PatchLength PatchContent e in
    let lengths = and_parts (nat_lt 0 (length p.indices.slots)) _ (and_parts _ _ fit.1).1 in
    let ranged = and_parts (list_all (is_index_within p.offset p.array_len) (numbers p.indices)) _ (and_parts (is_rising (numbers p.indices)) _ fit.2).1 in
    let counts = and_parts _ _ ranged.1 in
    let each : option_all (λ c. eqb (length c.slots) (chunk_count p.array_len)) p.chunk_offsets ≡ true = lengths.1 in
    let long : eqb (length offsets.slots) (chunk_count p.array_len) ≡ true = rw some at each in
    let from_0 : option_all (λ c. (eqb p.offset 0) && are_chunk_offsets (numbers p.indices) (numbers c)) p.chunk_offsets ≡ true = counts.1 in
    let right = and_parts (eqb p.offset 0) (are_chunk_offsets (numbers p.indices) (numbers offsets)) (rw some at from_0) in
    record { long = eqb-true _ _ long; start = eqb-true _ _ right.0; count = right.1 }

accept : (types lengths contents : Bool) (a b d : FastLanesError) → types ≡ true → lengths ≡ true → contents ≡ true → (if not types then Some a else if not lengths then Some b else if not contents then Some d else None) ≡ None
accept types lengths contents a b d e f g = rw (e, f, g) refl

-- nothing speaks against such parts without chunk offsets
pub unrefused_parts : (p : PatchesParts) → AreSound p → p.chunk_offsets ≡ None → refusal_of p ≡ None
unrefused_parts p s none =
    accept (patch_types_fit p) (patch_lengths_fit p) (patch_contents_fit p) PatchType PatchLength PatchContent
    (and_from _ _ s.typed (rw none refl))
    (and_from _ _ (eq-eqb _ _ s.even) (and_from _ _ (lt-ltb _ _ s.some) (rw none refl)))
    (and_from _ _ s.rising (and_from _ _ s.within (and_from _ _ (not_from_false _ s.valued) (rw none refl))))

-- no index is below the offset
pub none_before : (p : PatchesParts) → AreSound p → count_below p.offset (numbers p.indices) ≡ 0
none_before p s =
    let xs = numbers p.indices in
    count_split xs p.offset 0 (omega arith) (λ i h. absurd (omega arith)) (λ i h k.
    leb-true p.offset (get_or xs i 0) (and_parts _ _ (all_at (is_index_within p.offset p.array_len) xs i 0 s.within k)).0)

-- every index is below the end
pub all_before : (p : PatchesParts) → AreSound p → count_below (p.offset + p.array_len) (numbers p.indices) ≡ length (numbers p.indices)
all_before p s =
    let xs = numbers p.indices in
    count_split xs (p.offset + p.array_len) (length xs) (omega arith)
    (λ i h. ltb-true (get_or xs i 0) (p.offset + p.array_len) (and_parts (nat_le p.offset (get_or xs i 0)) _ (all_at (is_index_within p.offset p.array_len) xs i 0 s.within h)).1)
    (λ i h k. absurd (omega arith))

-- ---- the map of patches
-- patches have a value somewhere
some_patched : (p : PatchesParts) → AreSound p → ((i : ℕ) → i < p.array_len → patched p i ≡ None) → ⊥
some_patched p s nowhere =
    let xs = numbers p.indices in
    let len = length-map p.indices.slots unsigned_abs in
    let some : 0 < length xs = let few = s.some in omega arith in
    let ends = and_parts (nat_le p.offset (get_or xs 0 0)) _ (all_at (is_index_within p.offset p.array_len) xs 0 0 s.within some) in
    let low = leb-true p.offset (get_or xs 0 0) ends.0 in
    let high = ltb-true (get_or xs 0 0) (p.offset + p.array_len) ends.1 in
    let first : get_or xs 0 0 ≡ p.offset + (get_or xs 0 0 - p.offset) = omega arith in
    let found = rank_found xs (p.offset + (get_or xs 0 0 - p.offset)) 0 s.rising some first in
    let here = nowhere (get_or xs 0 0 - p.offset) (omega arith) in
    let clash = rw found at here in
    cc

pub patches_some : (p : PatchesParts) (at : ℕ → Option ℤ) → AreSound p → ((i : ℕ) → i < p.array_len → patched p i ≡ at i) → ArePatches (Some p) p.array_len at
patches_some p at s same = record {
  values = same;
  none = (λ h. absurd (true≢false h), λ h. absurd (some_patched p s (λ i k. same i k ∙ h i k)));
}

pub patches_none : (len : ℕ) (at : ℕ → Option ℤ) → ((i : ℕ) → i < len → at i ≡ None) → ArePatches None len at
patches_none len at nowhere = record {
  values = (λ i h. sym (nowhere i h));
  none = (λ h. nowhere, λ h. refl);
}

-- ---- values without a null
-- an item of an array without nulls is its slot
pub valued_item : (v : Validity) (xs : List ℤ) (i : ℕ) (d : ℤ) → IsTrue (covers v (length xs)) → list_any is_none (items_of v xs) ≡ false → i < length xs → get_or (items_of v xs) i None ≡ Some (get_or xs i d)
valued_item v xs i d covered valued h =
    let item = get_or-items_of v xs i d covered h in
    elim (cases_Bool (is_valid_at v i)) [
      | inl here ↦ item ∙ (rw here refl)
      | inr gone ↦ absurd (
          let none : get_or (items_of v xs) i None ≡ None = item ∙ (rw gone refl) in
          let any = any_at is_none (items_of v xs) i None (omega (arith, length-items_of v xs covered)) (ap is_none none) in
          false≢true (sym valued ∙ any))
    ]

-- what an answer holds
pub ok_same : {A : Type 0} (x y : A) → (let left : Result A FastLanesError = Ok x in left) ≡ Ok y → y ≡ x
ok_same x y e = cc
