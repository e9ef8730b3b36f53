-- Patches of exceptions that were found.
use Rattle.std.proofs.Common.{◌≡◌, ℕ, ℤ, pos, zero, suc, ◌+◌, ◌-◌, ◌*◌, ◌<◌, ◌≤◌, ◌^◌, Bool, true, not, List, [], ◌∷◌, length, map, take, get_or, Option, Some, None, Result, Ok, IfOk, IsTrue, option_map, nat_le, nat_lt, min, if◌then◌else◌, refl, ap, sym, subst, ◌∙◌, arith, inl, inr}
use Rattle.std.proofs.lemmas.Bool.{and_from, and_parts, cases_lt, eq-eqb, le-leb, le-ltb, lt-ltb, ltb-true, not_from_false}
use Rattle.std.proofs.lemmas.List.{length-map}
use Rattle.std.proofs.lemmas.List.FromFn.{get_or-map-range_with_len, length-map-range_with_len}
use Rattle.std.specs.List.{list_all}
use Rattle.fl_types.specs.declared.dtype.PType.{PType}
use Rattle.fl_types.specs.declared.dtype.PType.TheVariants.{U64}
use Rattle.fl_types.specs.declared.dtype.Nullability.{Nullability}
use Rattle.fl_types.specs.declared.error.FastLanesError.{FastLanesError}
use Rattle.fl_types.specs.declared.error.FastLanesError.TheVariants.{PatchType, PatchLength, PatchContent}
use Rattle.fl_types.specs.declared.validity.Validity.{Validity}
use Rattle.fl_types.specs.declared.validity.Validity.TheVariants as valid
use Rattle.fl_types.specs.Bits.{tabulate}
use Rattle.fl_types.specs.Integers.{is_unsigned, smallest_type}
use Rattle.fl_types.specs.Refusals.{Answers}
use Rattle.fl_types.specs.Validities.{covers, full_validity, items_of, nullability_of}
use Rattle.fl_column.specs.Columns.{PrimitiveParts, non_nullable, without_nulls}
use Rattle.fl_column.specs.Numbers.{index_array}
use Rattle.fl_column.proofs.ItemLaws.{length-items_of}
use Rattle.fl_column.specs.Chunks.{chunk_count}
use Rattle.fl_patches.specs.PatchMaps.{ArePatches, PatchesParts, count_below, is_index_within, is_rising, patch_contents_fit, patch_lengths_fit, patch_types_fit, places_from, rank_of, refusal_of, values_in}
use Rattle.fl_patches.proofs.Chunks.{chunks_count}
use Rattle.fl_column.proofs.FullLaws.{no_null}
use Rattle.fl_patches.proofs.Parts.{patches_none, patches_some, sound}
use Rattle.fl_patches.proofs.Rising.{count-cons}
use Rattle.fl_patches.proofs.Selected.{answered, same_maps}
use Rattle.fl_patches.proofs.Sparse.{found_at, numbers_of_places, places_below, places_even, places_rise}
use Rattle.fl_patches.specs.Exceptions.{exceptions_of, one_width}
use Rattle.fl_patches.proofs.Gathers.{all_gathered}
use Rattle.fl_patches.specs.PatchParts.{AreChunked, AreGathered, HasBlocks, chunk_offsets_of, counts_before, exception_at, exception_patches, global_patches, patches_with}
use Rattle.fl_patches.proofs.Blocks.{get_or-exceptions, length-exceptions}

-- ---- how many places stand before a chunk
none_below : {A : Type 0} (n limit : ℕ) (items : List (Option A)) → limit ≤ n → count_below limit (places_from n items) ≡ 0
none_below n limit [] h = refl
none_below n limit (None ∷ items) h = none_below (n + 1) limit items (omega arith)
none_below n limit (Some x ∷ items) h = count-cons limit n (places_from (n + 1) items) ∙ (rw (le-ltb n limit h, none_below (n + 1) limit items (omega arith)) refl)

count_taken_from : {A : Type 0} (n limit : ℕ) (items : List (Option A)) → count_below (n + limit) (places_from n items) ≡ length (values_in (take limit items))
count_taken_from n zero items = none_below n (n + 0) items (omega arith)
count_taken_from n (suc limit) [] = refl
count_taken_from n (suc limit) (None ∷ items) = let next : n + suc limit ≡ n + 1 + limit = omega arith in rw next (count_taken_from (n + 1) limit items)
count_taken_from n (suc limit) (Some x ∷ items) =
    let next : n + suc limit ≡ n + 1 + limit = omega arith in
    let first : nat_lt n (n + suc limit) ≡ true = lt-ltb n (n + suc limit) (omega arith) in
    let rest : count_below (n + suc limit) (places_from (n + 1) items) ≡ length (values_in (take limit items)) = rw next (count_taken_from (n + 1) limit items) in
    count-cons (n + suc limit) n (places_from (n + 1) items) ∙ (rw (first, rest) (omega arith))

count_taken : {A : Type 0} (limit : ℕ) (items : List (Option A)) → count_below limit (places_from 0 items) ≡ length (values_in (take limit items))
count_taken limit items = let start : 0 + limit ≡ limit = omega arith in rw start at (count_taken_from 0 limit items)

offsets_count : (items : List (Option ℤ)) (len : ℕ) → counts_before items (chunk_count len) ≡ chunk_offsets_of len (places_from 0 items)
unfolding counts_before chunk_offsets_of
offsets_count items len = let f : ℕ → ℕ = λ k. length (values_in (take (1024 * k) items)) in let g : ℕ → ℕ = λ k. count_below (1024 * k) (places_from 0 items) in
    let same : f ≡ g = (λ i k. sym (count_taken (1024 * k) items) i) in ap (λ h. tabulate h (chunk_count len)) same

-- what was found is in order
pub found_chunked : (t : PType) (width_at : ℕ → ℕ) (items : List (Option ℤ)) (places : List ℕ) (values : List ℤ) (offsets : List ℕ) (n len : ℕ) → AreGathered places values (exceptions_of t width_at items) → offsets ≡ counts_before (exceptions_of t width_at items) (chunk_count n) → n ≡ len → length items ≡ len
    → AreChunked places values offsets len
found_chunked t width_at items places values offsets n len so counted same count =
    let all : List (Option ℤ) = exceptions_of t width_at items in
    record {
      rising = ap is_rising so.placed ∙ places_rise 0 all;
      below = ap (list_all (λ place. nat_lt place len)) so.placed ∙ places_below 0 len all (omega (arith, length-exceptions t width_at items));
      even = ap length so.valued ∙ (places_even 0 all ∙ sym (ap length so.placed));
      counted = counted ∙ (ap (λ m. counts_before all (chunk_count m)) same ∙ (offsets_count all len ∙ ap (chunk_offsets_of len) (sym so.placed)));
    }

-- ---- nothing speaks against such parts
-- patches with these places and values
abbrev pub parts : PType → ℕ → PType → Nullability → List ℕ → List ℤ → PatchesParts
parts index_type len ptype nullability places values = record {
  array_len = len;
  offset = 0;
  indices = record { ptype = index_type; slots = map pos places; validity = valid.NonNullable };
  values = record { ptype = ptype; slots = values; validity = full_validity nullability };
  chunk_offsets = Some (record { ptype = U64; slots = map pos (chunk_offsets_of len places); validity = valid.NonNullable });
}

all_within : (places : List ℕ) (len : ℕ) → list_all (λ place. nat_lt place len) places ≡ true → list_all (is_index_within 0 len) places ≡ true
all_within [] len below = refl
all_within (place ∷ places) len below =
    let both = and_parts (nat_lt place len) _ below in
    let low = ltb-true place len both.0 in
    and_from _ _ (and_from _ _ (le-leb 0 place (omega arith)) (lt-ltb place (0 + len) (omega arith))) (all_within places len both.1)

length-offsets : (len : ℕ) (places : List ℕ) → length (chunk_offsets_of len places) ≡ chunk_count len
unfolding chunk_offsets_of
length-offsets len places = length-map-range_with_len (λ k. count_below (1024 * k) places) 0 (chunk_count len)

offset_at : (len : ℕ) (places : List ℕ) (k : ℕ) → k < length (chunk_offsets_of len places) → get_or (chunk_offsets_of len places) k 0 ≡ count_below (1024 * k) places
unfolding chunk_offsets_of
offset_at len places k h = get_or-map-range_with_len (λ j. count_below (1024 * j) places) 0 (chunk_count len) k k 0 (omega (arith, length-offsets len places)) (omega arith)

accept : (types lengths contents : Bool) (a b d : FastLanesError) → types ≡ true → lengths ≡ true → contents ≡ true → (if not types then Some a else if not lengths then Some b else if not contents then Some d else None) ≡ None
accept types lengths contents a b d e f g = rw (e, f, g) refl

pub unrefused : (index_type : PType) (len : ℕ) (ptype : PType) (nullability : Nullability) (places : List ℕ) (values : List ℤ) → is_unsigned index_type ≡ true → is_rising places ≡ true → list_all (λ place. nat_lt place len) places ≡ true → length values ≡ length places → 0 < length places
    → refusal_of (parts index_type len ptype nullability places values) ≡ None
unrefused index_type len ptype nullability places values unsigned rise below even some =
    let p = parts index_type len ptype nullability places values in
    let offsets : List ℕ = chunk_offsets_of len places in
    let long : length (map pos places) ≡ length places = length-map places (λ n. pos n) in
    accept (patch_types_fit p) (patch_lengths_fit p) (patch_contents_fit p) PatchType PatchLength PatchContent
    (and_from _ _ unsigned refl)
    (and_from _ _ (eq-eqb _ _ (long ∙ sym even)) (and_from _ _ (lt-ltb _ _ (omega arith)) (eq-eqb _ _ (length-map offsets (λ n. pos n) ∙ length-offsets len places))))
    (and_from _ _ (ap is_rising (numbers_of_places places) ∙ rise) (and_from _ _ (ap (list_all (is_index_within 0 len)) (numbers_of_places places) ∙ all_within places len below)
    (and_from _ _ (not_from_false _ (no_null nullability values)) (and_from _ _ refl (rw (numbers_of_places places, numbers_of_places offsets) (chunks_count places offsets (offset_at len places)))))))

pub patches_some_of : (index_type : PType) (len : ℕ) (ptype : PType) (nullability : Nullability) (places : List ℕ) (values : List ℤ) → 0 < length places → patches_with index_type len ptype nullability places values ≡ Some (parts index_type len ptype nullability places values)
patches_some_of index_type len ptype nullability [] values some = absurd (omega arith)
patches_some_of index_type len ptype nullability (place ∷ places) values some = refl

-- patches of the arrays that were made
pub parts_are : (holds len n : ℕ) (ptype t : PType) (nullability of_values : Nullability) (places : List ℕ) (zs : List ℤ) (offsets : List ℕ) (indices values chunks : PrimitiveParts)
    → ptype ≡ t → n ≡ len → of_values ≡ nullability → offsets ≡ chunk_offsets_of len places → indices ≡ index_array holds places → values ≡ without_nulls t of_values zs → chunks ≡ non_nullable U64 (map pos offsets)
    → (let p : PatchesParts = record { array_len = n; offset = 0; indices = indices; values = values; chunk_offsets = Some chunks } in p) ≡ parts (smallest_type holds) len ptype nullability places zs
parts_are holds len n ptype t nullability of_values places zs offsets indices values chunks typed all null counted is vs cs = rw (all, is, vs, cs, ← typed, null, counted) refl

-- ---- the map of the patches
with_are : (index_type : PType) (ptype : PType) (nullability : Nullability) (items : List (Option ℤ)) (places : List ℕ) → is_unsigned index_type ≡ true → places_from 0 items ≡ places → ArePatches (patches_with index_type (length items) ptype nullability places (values_in items)) (length items) (λ j. get_or items j None)
with_are index_type ptype nullability items [] unsigned e =
    patches_none (length items) (λ j. get_or items j None) (λ j h. sym (found_at 0 j items) ∙ ap (λ ps. option_map (λ k. get_or (values_in items) k (pos 0)) (rank_of (0 + j) ps)) e)
with_are index_type ptype nullability items (place ∷ places) unsigned e =
    let below = ap (list_all (λ place'. nat_lt place' (length items))) (sym e) ∙ places_below 0 (length items) items (omega arith) in
    let none = unrefused index_type (length items) ptype nullability (place ∷ places) (values_in items) unsigned (ap is_rising (sym e) ∙ places_rise 0 items) below (places_even 0 items ∙ ap length e) (omega arith) in
    patches_some (parts index_type (length items) ptype nullability (place ∷ places) (values_in items)) (λ j. get_or items j None) (sound (parts index_type (length items) ptype nullability (place ∷ places) (values_in items)) none)
    (λ j h. ap (λ ps. option_map (λ k. get_or (values_in items) k (pos 0)) (rank_of (0 + j) ps)) (numbers_of_places (place ∷ places) ∙ sym e) ∙ found_at 0 j items)

-- each item is patched where it is an exception
pub exceptions_are : (index_type : PType) (width_at : ℕ → ℕ) (p : PrimitiveParts) → is_unsigned index_type ≡ true → IsTrue (covers p.validity (length p.slots)) → ArePatches (exception_patches index_type width_at p) (length p.slots) (exception_at width_at p)
exceptions_are index_type width_at p unsigned covered =
    let items : List (Option ℤ) = items_of p.validity p.slots in
    let all : List (Option ℤ) = exceptions_of p.ptype width_at items in
    let count : length all ≡ length p.slots = length-exceptions p.ptype width_at items ∙ length-items_of p.validity p.slots covered in
    let are = with_are index_type p.ptype (nullability_of p.validity) all (places_from 0 all) unsigned refl in
    let of_len : ℕ → Type 0 = λ n. ArePatches (patches_with index_type n p.ptype (nullability_of p.validity) (places_from 0 all) (values_in all)) n (λ j. get_or all j None) in
    same_maps (exception_patches index_type width_at p) (length p.slots) (λ j. get_or all j None) (exception_at width_at p) (λ i h. get_or-exceptions p.ptype width_at items i (omega (arith, length-exceptions p.ptype width_at items))) (subst of_len count are)

-- the type of global indices
pub one_more_type : (n : ℕ) → n < 2 ^ 64 → smallest_type (min (n + 1) (2 ^ 64 - 1)) ≡ smallest_type (n + 1)
one_more_type n room = elim (cases_lt (n + 1) (2 ^ 64)) [
  | inl fits ↦ (let same : min (n + 1) (2 ^ 64 - 1) ≡ n + 1 = omega arith in ap smallest_type same)
  | inr last ↦ (let most : n ≡ 2 ^ 64 - 1 = omega arith in rw most refl)
]

pub gathered_global : (p : PrimitiveParts) (width n holds : ℕ) (r : Result (Option PatchesParts) FastLanesError) → n ≡ length p.slots → n < 2 ^ 64 → holds ≡ min (n + 1) (2 ^ 64 - 1)
    → Answers (λ o. o) r (Ok (exception_patches (smallest_type holds) (one_width width) p)) → Answers (λ o. o) r (Ok (global_patches width p))
gathered_global p width n holds r len room up is =
    let same : smallest_type holds ≡ smallest_type (length p.slots + 1) = ap smallest_type up ∙ (one_more_type n room ∙ ap (λ m. smallest_type (m + 1)) len) in
    let answers : PType → Type 0 = λ t. Answers (λ o. o) r (Ok (exception_patches t (one_width width) p)) in
    subst answers same is

-- places below a length are numbers up to a greater one
pub below_more : (places : List ℕ) (len holds : ℕ) → len ≤ holds → list_all (λ place. nat_lt place len) places ≡ true → list_all (λ place. nat_le place holds) places ≡ true
below_more [] len holds h below = refl
below_more (place ∷ places) len holds h below =
    let both = and_parts (nat_lt place len) _ below in
    let low = ltb-true place len both.0 in
    and_from _ _ (le-leb place holds (omega arith)) (below_more places len holds h both.1)

-- ---- what was found of an array
pub all_chunked : (t : PType) (v : Validity) (slots : List ℤ) (width_at : ℕ → ℕ) (places : List ℕ) (values : List ℤ) (offsets : List ℕ) → IsTrue (covers v (length slots))
    → HasBlocks places values offsets (exceptions_of t width_at (items_of v slots)) (chunk_count (length slots)) → AreChunked places values offsets (length slots)
all_chunked t v slots width_at places values offsets covered so =
    found_chunked t width_at (items_of v slots) places values offsets (length slots) (length slots) (all_gathered t v slots width_at places values offsets covered so) so.counted refl (length-items_of v slots covered)

-- they are the patches of the array
pub found_patches : (p : PrimitiveParts) (t : PType) (w : Validity) (zs : List ℤ) (index_type : PType) (width_at : ℕ → ℕ) (places : List ℕ) (values : List ℤ) (r : Result (Option PatchesParts) FastLanesError) → p.ptype ≡ t → w ≡ p.validity → zs ≡ p.slots
    → AreGathered places values (exceptions_of t width_at (items_of w zs))
    → Answers (λ o. o) r (Ok (patches_with index_type (length p.slots) p.ptype (nullability_of p.validity) places values)) → Answers (λ o. o) r (Ok (exception_patches index_type width_at p))
found_patches p t w zs index_type width_at places values r typed valid same so is =
    let answers : Option PatchesParts → Type 0 = λ o. Answers (λ q. q) r (Ok o) in
    let e : patches_with index_type (length p.slots) p.ptype (nullability_of p.validity) places values ≡ exception_patches index_type width_at p = rw (so.placed, so.valued, ← typed, valid, same) refl in
    subst answers e is

-- the map of the answer
pub answered_are : (p : PrimitiveParts) (index_type : PType) (width_at : ℕ → ℕ) (r : Result (Option PatchesParts) FastLanesError) → is_unsigned index_type ≡ true → IsTrue (covers p.validity (length p.slots))
    → Answers (λ o. o) r (Ok (exception_patches index_type width_at p)) → IfOk r (λ o. ArePatches o (length p.slots) (exception_at width_at p))
answered_are p index_type width_at r unsigned covered is = answered r (Ok (exception_patches index_type width_at p)) (λ o. ArePatches o (length p.slots) (exception_at width_at p)) (exceptions_are index_type width_at p unsigned covered) is
