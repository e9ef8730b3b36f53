-- How many bytes packed parts have.
use Rattle.std.proofs.Common.{◌≡◌, ◌<◌, ◌≤◌, ℕ, ℤ, pos, ◌+◌, ◌-◌, ◌*◌, ◌^◌, Bool, true, false, List, [], ◌∷◌, length, map, min, sum, Option, Some, None, refl, ap, sym, ◌∙◌, inl, inr, arith}
use Rattle.std.specs.Prelude.{◌==◌, ◌&&◌, ◌⊎◌, nat_le, nat_lt, not, if◌then◌else◌, IsTrue}
use Rattle.std.specs.List.{list_all, list_any}
use Rattle.std.proofs.lemmas.Bool.{cases_lt, eqb-true, eq-eqb, le-leb, lt-leb, lt-ltb}
use Rattle.std.proofs.lemmas.Bool.Decides.{nat_tests}
use Rattle.std.proofs.lemmas.List.{length-map}
use Rattle.fl_types.specs.declared.dtype.PType.{PType}
use Rattle.fl_types.specs.declared.dtype.PType.TheVariants.{U64}
use Rattle.fl_types.specs.declared.dtype.Nullability.{Nullability}
use Rattle.fl_types.specs.declared.error.FastLanesError.{FastLanesError}
use Rattle.fl_types.specs.declared.error.FastLanesError.TheVariants.{AllBlocksNative, NegativeValue, WidthTooLarge}
use Rattle.fl_types.specs.Integers.{bits_of_type, smallest_type}
use Rattle.fl_types.specs.Validities.{covers, items_of, nullability_of}
use Rattle.fl_column.proofs.ItemLaws.{length-items_of}
use Rattle.fl_column.specs.Chunks.{chunk_count}
use Rattle.fl_column.specs.Columns.{PrimitiveParts}
use Rattle.fl_patches.specs.Exceptions.{exceptions_of, is_negative}
use Rattle.fl_patches.specs.PatchMaps.{places_from, values_in}
use Rattle.fl_patches.specs.PatchParts.{blocked_patches, chunk_offsets_of, exception_patches, global_patches, patch_count, patches_with}
use Rattle.fl_patches.proofs.Counted.{count_patches, global_counted, patches_counted}
use Rattle.fl_patches.proofs.LeastTotals.{length-widths, widths_fit}
use Rattle.fl_statistics.specs.declared.widths.BitStatistics.{BitStatistics}
use Rattle.fl_statistics.specs.BitStatistics.{bit_statistics}
use Rattle.fl_bitpacking.specs.Blocks.{boundaries_of, boundary_array}
use Rattle.fl_bitpacking.specs.Columns.{BitPackedParts}
use Rattle.fl_bitpacking.specs.Encoders.{IsPackedAt, IsPackedInBlocks, best_width_of, best_widths_of, widths_refusal}
use Rattle.fl_bitpacking.proofs.Bounds.{boundaries_joined}
use Rattle.fl_bitpacking.proofs.Tables.{length-table}
use Rattle.fl_encode.specs.declared.scheme.Packing.{Packing}
use Rattle.fl_encode.specs.declared.scheme.Packing.TheVariants.{BestWidth, BestWidths}
use Rattle.fl_encode.specs.Packings.{packing_refusal}
use Rattle.fl_encode.specs.Shapes.{BitPacked}
use Rattle.fl_serde.specs.ByteCounts.{packed_bytes, patches_bytes, primitive_bytes, validity_bytes}
use Rattle.fl_serde.specs.Leaves.{slots_size}
use Rattle.fl_compress.specs.Choices.{with_slots}
use Rattle.fl_compress.specs.EncodedBytes.{bytes_at, bytes_of_count, bytes_packed, encoded_bytes, unless}

-- ---- patches
-- there is a value beside each place
even : {A : Type 0} (n : ℕ) (items : List (Option A)) → length (places_from n items) ≡ length (values_in items)
even n [] = refl
even n (None ∷ items) = even (n + 1) items
even n (Some x ∷ items) = let rest = even (n + 1) items in omega arith

with_bytes : (index_type : PType) (p : PrimitiveParts) (nullability : Nullability) (places : List ℕ) (values : List ℤ) → length places ≡ length values
    → patches_bytes (patches_with index_type (length p.slots) p.ptype nullability places values) ≡ bytes_of_count p index_type (length places)
unfolding chunk_offsets_of
with_bytes index_type p nullability [] values e = refl
with_bytes index_type p nullability (place ∷ places) values e =
    let indices : slots_size index_type (length (map pos (place ∷ places))) ≡ slots_size index_type (length (place ∷ places)) = ap (slots_size index_type) (length-map (place ∷ places) pos) in
    let beside : slots_size p.ptype (length values) ≡ slots_size p.ptype (length (place ∷ places)) = ap (slots_size p.ptype) (sym e) in
    let offsets : slots_size U64 (length (map pos (chunk_offsets_of (length p.slots) (place ∷ places)))) ≡ slots_size U64 (chunk_count (length p.slots)) = ap (slots_size U64) (length-map (chunk_offsets_of (length p.slots) (place ∷ places)) pos ∙ length-table _ (chunk_count (length p.slots))) in
    let some : (length (place ∷ places) == 0) ≡ false = grind (arith, nat_tests) in
    rw (indices, beside, offsets, some) refl

-- the patches of exceptions have the bytes of so many
exception_bytes : (index_type : PType) (width : ℕ → ℕ) (p : PrimitiveParts) → patches_bytes (exception_patches index_type width p) ≡ bytes_of_count p index_type (patch_count (exception_patches index_type width p))
exception_bytes index_type width p =
    let all : List (Option ℤ) = exceptions_of p.ptype width (items_of p.validity p.slots) in
    let n = nullability_of p.validity in
    with_bytes index_type p n (places_from 0 all) (values_in all) (even 0 all)
    ∙ ap (bytes_of_count p index_type) (sym (count_patches index_type (length p.slots) p.ptype n (places_from 0 all) (values_in all)))

pub global_patch_bytes : (p : PrimitiveParts) (width count : ℕ) → count ≡ patch_count (global_patches width p) → bytes_of_count p (smallest_type (length p.slots + 1)) count ≡ patches_bytes (global_patches width p)
global_patch_bytes p width count e = ap (bytes_of_count p (smallest_type (length p.slots + 1))) e ∙ sym (exception_bytes (smallest_type (length p.slots + 1)) _ p)

pub blocked_patch_bytes : (p : PrimitiveParts) (widths : List ℕ) (count : ℕ) → count ≡ patch_count (blocked_patches widths p) → bytes_of_count p (smallest_type (length p.slots)) count ≡ patches_bytes (blocked_patches widths p)
blocked_patch_bytes p widths count e = ap (bytes_of_count p (smallest_type (length p.slots))) e ∙ sym (exception_bytes (smallest_type (length p.slots)) _ p)

-- the bytes of patches are those of an array with other slots, where there are as many
pub count_bytes_alike : (p : PrimitiveParts) (slots : List ℤ) (index_type : PType) (count : ℕ) → length slots ≡ length p.slots → bytes_of_count p index_type count ≡ bytes_of_count (with_slots p slots) index_type count
count_bytes_alike p slots index_type count long = ap (λ n. if count == 0 then 0 else slots_size index_type count + slots_size p.ptype count + slots_size U64 (chunk_count n)) (sym long)

-- there is an item for each of as many slots
pub items_alike : (p : PrimitiveParts) (slots : List ℤ) → IsTrue (covers p.validity (length p.slots)) → length slots ≡ length p.slots → length (items_of p.validity slots) ≡ length slots
items_alike p slots covered long = length-items_of p.validity slots (rw long covered)

-- ---- boundaries
pub boundary_bytes : (widths : List ℕ) → primitive_bytes (boundary_array widths) ≡ slots_size (smallest_type (128 * sum widths)) (length widths + 1)
boundary_bytes widths =
    let long : slots_size (smallest_type (128 * sum widths)) (length (map pos (boundaries_of widths))) ≡ slots_size (smallest_type (128 * sum widths)) (length widths + 1) = ap (slots_size (smallest_type (128 * sum widths))) (length-map (boundaries_of widths) pos ∙ length-table _ (length widths + 1)) in
    omega arith

-- ---- packed parts
-- what packed parts have beside their packed bytes
beside_packed : BitPackedParts → ℕ
beside_packed parts = patches_bytes parts.patches + validity_bytes parts.len parts.validity

pub bytes_at_width : (p : PrimitiveParts) (width : ℕ) (parts : BitPackedParts) → IsPackedAt p width parts → packed_bytes parts ≡ bytes_at width p
unfolding beside_packed
bytes_at_width p width parts h =
    let size : length parts.packed ≡ 128 * width * chunk_count (length p.slots) = h.packed.size in
    let others : beside_packed parts ≡ patches_bytes (global_patches width p) + validity_bytes (length p.slots) p.validity = ap beside_packed h.whole in
    omega arith

-- a refusal that is not there rules out the one before it
counted : (a b : Bool) (first other : FastLanesError) (rest : Option FastLanesError) → (if a then Some first else if not b then Some other else rest) ≡ None → b ≡ true
counted true b first other rest e = cc
counted false true first other rest e = refl
counted false false first other rest e = cc

pub bytes_at_widths : (p : PrimitiveParts) (widths : List ℕ) (parts : BitPackedParts) → widths_refusal p widths ≡ None → IsPackedInBlocks p widths parts
    → packed_bytes parts ≡ 128 * sum widths + patches_bytes (blocked_patches widths p) + validity_bytes (length p.slots) p.validity
unfolding beside_packed
bytes_at_widths p widths parts none h =
    let many : length widths ≡ chunk_count (length p.slots) = eqb-true (length widths) (chunk_count (length p.slots)) (counted _ _ _ _ _ none) in
    let size : length parts.packed ≡ 128 * sum widths = h.packed.size ∙ (boundaries_joined widths (chunk_count (length p.slots)) many).last in
    let others : beside_packed parts ≡ patches_bytes (blocked_patches widths p) + validity_bytes (length p.slots) p.validity = ap beside_packed h.whole in
    omega arith

-- ---- sums of what is counted
pub at_width_is : (p : PrimitiveParts) (width blocks patches validity : ℕ) → blocks ≡ chunk_count (length p.slots) → patches ≡ patches_bytes (global_patches width p) → validity ≡ validity_bytes (length p.slots) p.validity
    → 128 * width * blocks + patches + validity ≡ bytes_at width p
at_width_is p width blocks patches validity e f g = rw (e, f, g) refl

pub at_widths_is : (p : PrimitiveParts) (widths : List ℕ) (size patches validity boundaries : ℕ) → widths ≡ best_widths_of p → size ≡ 128 * sum widths → patches ≡ patches_bytes (blocked_patches widths p) → validity ≡ validity_bytes (length p.slots) p.validity → boundaries ≡ primitive_bytes (boundary_array widths)
    → bytes_packed BestWidths p ≡ size + patches + validity + boundaries
at_widths_is p widths size patches validity boundaries w e f g h = rw (e, f, g, h, w) refl

-- a number that is capped needs the same type
pub capped_type : (n : ℕ) → smallest_type (min n (2 ^ 64 - 1)) ≡ smallest_type n
capped_type n = elim (cases_lt n (2 ^ 64)) [
  | inl lt ↦ (let same : min n (2 ^ 64 - 1) ≡ n = omega arith in ap smallest_type same)
  | inr ge ↦ (let same : min n (2 ^ 64 - 1) ≡ 2 ^ 64 - 1 = omega arith in ap smallest_type same ∙ sym (large n ge))
]
  where
    large : (m : ℕ) → 2 ^ 64 ≤ m → smallest_type m ≡ U64
    large m h = grind (arith, nat_tests)

-- ---- refused packings
pub packing_refused : (p : PrimitiveParts) (packing : Packing) (refusal : FastLanesError) → packing_refusal packing p ≡ Some refusal → encoded_bytes p (BitPacked packing) ≡ None
unfolding encoded_bytes
packing_refused p packing refusal e = ap (λ r. unless r (bytes_packed packing p)) e

pub packing_accepted : (p : PrimitiveParts) (packing : Packing) → packing_refusal packing p ≡ None → encoded_bytes p (BitPacked packing) ≡ Some (bytes_packed packing p)
unfolding encoded_bytes
packing_accepted p packing e = ap (λ r. unless r (bytes_packed packing p)) e

-- ---- statistics
-- what the statistics of an array's items are
abbrev pub ArePackingStatistics : PrimitiveParts → BitStatistics → Type 0
ArePackingStatistics p s = s ≡ bit_statistics p.ptype (items_of p.validity p.slots)

pub width_is_best : (p : PrimitiveParts) (s : BitStatistics) → ArePackingStatistics p s → s.width ≡ best_width_of p
unfolding bit_statistics
width_is_best p s e = ap (λ a. a.width) e

pub exceptions_are : (p : PrimitiveParts) (s : BitStatistics) → ArePackingStatistics p s → s.exceptions ≡ patch_count (global_patches s.width p)
unfolding bit_statistics
exceptions_are p s e = ap (λ a. a.exceptions) e ∙ (sym (global_counted _ (best_width_of p) p) ∙ ap (λ w. patch_count (global_patches w p)) (sym (width_is_best p s e)))

pub sum_is : (p : PrimitiveParts) (s : BitStatistics) → ArePackingStatistics p s → s.block_widths ≡ sum (best_widths_of p)
unfolding bit_statistics
sum_is p s e = ap (λ a. a.block_widths) e

pub block_exceptions_are : (p : PrimitiveParts) (s : BitStatistics) → ArePackingStatistics p s → s.block_exceptions ≡ patch_count (blocked_patches (best_widths_of p) p)
unfolding bit_statistics
block_exceptions_are p s e = ap (λ a. a.block_exceptions) e ∙ sym (patches_counted _ _ p)

refused_width : (p : PrimitiveParts) (s : BitStatistics) (negative : Bool) → ArePackingStatistics p s → s.negative ≡ negative → list_any is_negative (items_of p.validity p.slots) ≡ negative
unfolding bit_statistics
refused_width p s negative e f = sym (ap (λ a. a.negative) e) ∙ f

pub negative_unpacked : (p : PrimitiveParts) (s : BitStatistics) → ArePackingStatistics p s → s.negative ≡ true → encoded_bytes p (BitPacked BestWidth) ≡ None
negative_unpacked p s e f = packing_refused p BestWidth NegativeValue (let below = refused_width p s true e f in rw below refl)

pub negative_not_in_blocks : (p : PrimitiveParts) (s : BitStatistics) → ArePackingStatistics p s → s.negative ≡ true → encoded_bytes p (BitPacked BestWidths) ≡ None
negative_not_in_blocks p s e f = packing_refused p BestWidths NegativeValue (let below = refused_width p s true e f in rw below refl)

pub too_wide : (p : PrimitiveParts) (s : BitStatistics) → ArePackingStatistics p s → s.negative ≡ false → bits_of_type p.ptype ≤ s.width → encoded_bytes p (BitPacked BestWidth) ≡ None
too_wide p s e f wide =
    let below = refused_width p s false e f in
    let large : nat_le (bits_of_type p.ptype) (best_width_of p) ≡ true = le-leb _ _ (omega (arith, width_is_best p s e)) in
    packing_refused p BestWidth WidthTooLarge (rw (below, large) refl)

pub at_best : (p : PrimitiveParts) (s : BitStatistics) (bytes : ℕ) → ArePackingStatistics p s → s.negative ≡ false → s.width < bits_of_type p.ptype → bytes ≡ bytes_at s.width p → Some bytes ≡ encoded_bytes p (BitPacked BestWidth)
at_best p s bytes e f narrow is =
    let below = refused_width p s false e f in
    let small : nat_le (bits_of_type p.ptype) (best_width_of p) ≡ false = lt-leb _ _ (omega (arith, width_is_best p s e)) in
    ap (λ n. let o : Option ℕ = Some n in o) (is ∙ ap (λ w. bytes_at w p) (width_is_best p s e)) ∙ sym (packing_accepted p BestWidth (rw (below, small) refl))

-- the best widths are as many as the blocks, and none is above the type's bits
widths_even : (p : PrimitiveParts) → length (items_of p.validity p.slots) ≡ length p.slots → length (best_widths_of p) ≡ chunk_count (length p.slots)
widths_even p covered = length-widths p.ptype (items_of p.validity p.slots) (chunk_count (length (items_of p.validity p.slots))) ∙ ap chunk_count covered

none_above : (bits : ℕ) (widths : List ℕ) → list_all (λ w. nat_le w bits) widths ≡ true → list_any (nat_lt bits) widths ≡ false
none_above bits [] h = refl
none_above bits (w ∷ widths) h = grind (arith, nat_tests, none_above bits widths)

pub all_native_unpacked : (p : PrimitiveParts) (s : BitStatistics) → ArePackingStatistics p s → length (items_of p.validity p.slots) ≡ length p.slots → s.negative ≡ false → 0 < length p.slots → s.all_native ≡ true → encoded_bytes p (BitPacked BestWidths) ≡ None
unfolding bit_statistics
all_native_unpacked p s e covered f some native =
    let items = items_of p.validity p.slots in
    let below = refused_width p s false e f in
    let even : (length (best_widths_of p) == chunk_count (length p.slots)) ≡ true = eq-eqb _ _ (widths_even p covered) in
    let fit = none_above (bits_of_type p.ptype) (best_widths_of p) (widths_fit p.ptype items (chunk_count (length items))) in
    let more : nat_lt 0 (length (best_widths_of p)) ≡ true = lt-ltb _ _ (omega (arith, widths_even p covered)) in
    let all : list_all (λ w. w == bits_of_type p.ptype) (best_widths_of p) ≡ true = sym (ap (λ a. a.all_native) e) ∙ native in
    packing_refused p BestWidths AllBlocksNative (rw (below, even, fit, more, all) refl)

-- where there are items, one block has a width below the type's bits
pub in_blocks : (p : PrimitiveParts) (s : BitStatistics) (bytes : ℕ) → ArePackingStatistics p s → length (items_of p.validity p.slots) ≡ length p.slots → s.negative ≡ false → (s.all_native ≡ false) ⊎ (length p.slots ≡ 0) → bytes ≡ bytes_packed BestWidths p
    → Some bytes ≡ encoded_bytes p (BitPacked BestWidths)
unfolding bit_statistics
in_blocks p s bytes e covered f native is =
    let items = items_of p.validity p.slots in
    let below = refused_width p s false e f in
    let even : (length (best_widths_of p) == chunk_count (length p.slots)) ≡ true = eq-eqb _ _ (widths_even p covered) in
    let fit = none_above (bits_of_type p.ptype) (best_widths_of p) (widths_fit p.ptype items (chunk_count (length items))) in
    let same : nat_lt 0 (length (best_widths_of p)) ≡ nat_lt 0 (length p.slots) = ap (nat_lt 0) (widths_even p covered) ∙ as_many (length p.slots) in
    let all : (nat_lt 0 (length (best_widths_of p)) && list_all (λ w. w == bits_of_type p.ptype) (best_widths_of p)) ≡ false = ap (λ b. b && list_all (λ w. w == bits_of_type p.ptype) (best_widths_of p)) same ∙ (ap (λ b. nat_lt 0 (length p.slots) && b) (sym (ap (λ a. a.all_native) e)) ∙ other (length p.slots) s.all_native native) in
    ap (λ n. let o : Option ℕ = Some n in o) is ∙ sym (packing_accepted p BestWidths (rw (below, even, fit, all) refl))
  where
    as_many : (n : ℕ) → nat_lt 0 (chunk_count n) ≡ nat_lt 0 n
    as_many n = grind (arith, nat_tests)

    other : (n : ℕ) (native : Bool) → (native ≡ false) ⊎ (n ≡ 0) → (nat_lt 0 n && native) ≡ false
    other n native (inl e) = grind (arith, nat_tests)
    other n native (inr e) = grind (arith, nat_tests)

-- the boundaries of the best widths
pub boundaries_are : (p : PrimitiveParts) (widths blocks len bytes : ℕ) → len ≡ length p.slots → len ≡ length (items_of p.validity p.slots) → blocks ≡ chunk_count len → widths ≡ sum (best_widths_of p) → bytes ≡ slots_size (smallest_type (128 * widths)) (blocks + 1)
    → bytes ≡ primitive_bytes (boundary_array (best_widths_of p))
boundaries_are p widths blocks len bytes slots items count total is =
    let many : blocks ≡ length (best_widths_of p) = count ∙ (ap chunk_count slots ∙ sym (widths_even p (sym items ∙ slots))) in
    is ∙ (ap (λ n. slots_size (smallest_type (128 * n)) (blocks + 1)) total ∙ (ap (λ n. slots_size (smallest_type (128 * sum (best_widths_of p))) (n + 1)) many ∙ sym (boundary_bytes (best_widths_of p))))
