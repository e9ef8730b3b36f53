-- What packing makes of an array is a bit-packed array.
use Rattle.std.proofs.Common.{◌≡◌, ◌+◌, ◌*◌, ◌^◌, ◌<◌, ◌≤◌, ℕ, ℤ, true, List, [], ◌∷◌, length, map, take, get_or, Option, None, IfSome, IsTrue, refl, ap, sym, ◌∙◌, arith, inl, inr}
use Rattle.std.specs.Prelude.{Result, Ok, Err, pos, unsigned_abs}
use Rattle.std.specs.List.{list_any, sum}
use Rattle.std.proofs.lemmas.Bool.{cases_Bool}
use Rattle.std.proofs.lemmas.List.{length-map}
use Rattle.std.proofs.lemmas.List.FromFn.{get_or-map-range_with_len, length-map-range_with_len}
use Rattle.std.proofs.lemmas.List.Sums.{sum_by-take-le}
use Rattle.fl_types.specs.declared.error.FastLanesError.{FastLanesError}
use Rattle.fl_types.specs.declared.error.FastLanesError.TheVariants.{NegativeValue}
use Rattle.fl_types.specs.declared.dtype.PType.{PType}
use Rattle.fl_types.specs.declared.dtype.Nullability.{Nullability}
use Rattle.fl_types.specs.declared.validity.Validity.{Validity}
use Rattle.fl_types.specs.Integers.{bits_of_type}
use Rattle.fl_types.specs.Types.{is_index_type}
use Rattle.fl_types.specs.Validities.{covers, items_of, nullability_of}
use Rattle.fl_column.specs.Columns.{PrimitiveParts, column_of_primitive}
use Rattle.fl_column.specs.Numbers.{numbers}
use Rattle.fl_column.proofs.ItemLaws.{length-items_of}
use Rattle.fl_column.proofs.QueryLaws.{next_holds}
use Rattle.fl_patches.specs.PatchMaps.{PatchesParts, places_from, values_in}
use Rattle.fl_column.specs.Chunks.{chunk_count}
use Rattle.fl_column.proofs.NumberLaws.{smallest_unsigned}
use Rattle.fl_patches.proofs.Parts.{ok_same}
use Rattle.fl_patches.specs.Costs.{ChosenWidths, choose_widths, chosen_widths}
use Rattle.fl_patches.specs.Exceptions.{exceptions_of, is_negative}
use Rattle.fl_patches.specs.PatchParts.{blocked_patches, exception_patches, global_patches, patches_with}
use Rattle.fl_bitpacking.specs.Blocks.{ArePacked, are_blocks, boundaries_of, boundary_array, boundary_blocks, global_blocks, is_block}
use Rattle.fl_bitpacking.specs.Columns.{BitPackedParts}
use Rattle.fl_bitpacking.specs.Encoders.{best_widths_of, packed_parts}
use Rattle.fl_bitpacking.specs.Refusals.{AreConsistent, blocked_refusal, global_refusal, positions_refusal}
use Rattle.fl_bitpacking.proofs.BoundaryLaws.{is_ends}
use Rattle.fl_bitpacking.proofs.Bounds.{boundaries_joined, sum_more}
use Rattle.fl_bitpacking.proofs.IndexNumbers.{numbers_of_index}
use Rattle.fl_bitpacking.proofs.SoundParts.{no_blocked_refusal, no_global_refusal, positions}

-- ---- the parts fit each other
-- patches that were gathered are those of as many items of the type
gathered_fit : (index_type : PType) (len : ℕ) (ptype : PType) (nullability : Nullability) (places : List ℕ) (values : List ℤ) → IfSome (patches_with index_type len ptype nullability places values) (λ q. (q.array_len ≡ len) × (q.values.ptype ≡ ptype))
gathered_fit index_type len ptype nullability [] values = tt
gathered_fit index_type len ptype nullability (place ∷ places) values = (refl, refl)

exceptions_fit : (index_type : PType) (width : ℕ → ℕ) (p : PrimitiveParts) → IfSome (exception_patches index_type width p) (λ q. (q.array_len ≡ length p.slots) × (q.values.ptype ≡ p.ptype))
exceptions_fit index_type width p =
    let exceptions = exceptions_of p.ptype width (items_of p.validity p.slots) in
    gathered_fit index_type (length p.slots) p.ptype (nullability_of p.validity) (places_from 0 exceptions) (values_in exceptions)

-- parts with such patches are consistent
consistent_by : (p : PrimitiveParts) (patches : Option PatchesParts) (bytes : List ℕ) → IsTrue (covers p.validity (length p.slots)) → positions_refusal 0 (length p.slots) ≡ None → IfSome patches (λ q. (q.array_len ≡ length p.slots) × (q.values.ptype ≡ p.ptype)) → AreConsistent (packed_parts p patches bytes)
consistent_by p patches bytes covered few fit =
    let at = positions 0 (length p.slots) few in
    let high : 1024 * chunk_count (0 + length p.slots) < 2 ^ 64 = at.1 in
    record {
      fit = record { offset = at.0; few = omega arith; covers = covered; patched = fit };
      few = high;
    }

pub consistent_at : (p : PrimitiveParts) (width : ℕ) (bytes : List ℕ) → IsTrue (covers p.validity (length p.slots)) → positions_refusal 0 (length p.slots) ≡ None → AreConsistent (packed_parts p (global_patches width p) bytes)
consistent_at p width bytes covered few = consistent_by p (global_patches width p) bytes covered few (exceptions_fit _ _ p)

pub consistent_in_blocks : (p : PrimitiveParts) (widths : List ℕ) (bytes : List ℕ) → IsTrue (covers p.validity (length p.slots)) → positions_refusal 0 (length p.slots) ≡ None → AreConsistent (packed_parts p (blocked_patches widths p) bytes)
consistent_in_blocks p widths bytes covered few = consistent_by p (blocked_patches widths p) bytes covered few (exceptions_fit _ _ p)

-- parts are told by what they are made of
pub same_parts : (p : PrimitiveParts) (patches others : Option PatchesParts) (bytes : List ℕ) (ptype : PType) (validity : Validity) (len : ℕ) → ptype ≡ p.ptype → validity ≡ p.validity → others ≡ patches → len ≡ length p.slots
    → (let parts : BitPackedParts = record { packed = bytes; ptype = ptype; validity = validity; patches = others; offset = 0; len = len } in parts) ≡ packed_parts p patches bytes
same_parts p patches others bytes ptype validity len e f g h = rw (e, f, g, h) refl

-- ---- one width
pub packed_global : (p : PrimitiveParts) (patches : Option PatchesParts) (width : ℕ) (bytes : List ℕ) → AreConsistent (packed_parts p patches bytes) → width ≤ bits_of_type p.ptype → ArePacked p.ptype p.slots (global_blocks width) bytes → global_refusal (packed_parts p patches bytes) width ≡ None
packed_global p patches width bytes parts narrow packed =
    let all : 0 + length p.slots ≡ length p.slots = omega arith in
    no_global_refusal (packed_parts p patches bytes) width (record {
      parts = parts;
      narrow = narrow;
      size = packed.size ∙ ap (λ n. 128 * width * chunk_count n) (sym all);
    })

-- ---- a width for each block
-- the boundaries of a block of a width that starts after whole blocks
block_of_sums : (bits size s w : ℕ) → w ≤ bits → 128 * (s + w) ≤ size → is_block bits size 0 (128 * s) (128 * (s + w)) ≡ true
block_of_sums bits size s w narrow room = is_ends bits size 0 (128 * s) (128 * (s + w)) (record {
  low = omega arith;
  order = omega arith;
  room = omega arith;
  from = omega arith;
  whole = omega arith;
  narrow = omega arith;
})

boundary_at : (widths : List ℕ) (j : ℕ) → j ≤ length widths → get_or (boundaries_of widths) j 0 ≡ 128 * sum (take j widths)
boundary_at widths j h = get_or-map-range_with_len (λ (k : ℕ). 128 * sum (take k widths)) 0 (length widths + 1) j j 0 (omega arith) (omega arith)

-- the boundaries of widths are those of blocks
pub boundaries_are_blocks : (bits : ℕ) (widths : List ℕ) → ((j : ℕ) → j < length widths → get_or widths j 0 ≤ bits) → are_blocks bits (128 * sum widths) (boundaries_of widths) ≡ true
boundaries_are_blocks bits widths narrow =
    let long : length (boundaries_of widths) ≡ length widths + 1 = length-map-range_with_len (λ (k : ℕ). 128 * sum (take k widths)) 0 (length widths + 1) in
    let first : get_or (boundaries_of widths) 0 0 ≡ 0 = boundary_at widths 0 (omega arith) in
    next_holds (is_block bits (128 * sum widths) (get_or (boundaries_of widths) 0 0)) (boundaries_of widths) 0 (λ i l.
    let inside : i < length widths = omega arith in
    let here = boundary_at widths i (omega arith) in
    let more = sum_more widths i inside in
    let next : get_or (boundaries_of widths) (i + 1) 0 ≡ 128 * (sum (take i widths) + get_or widths i 0) = boundary_at widths (i + 1) (omega arith) ∙ ap (λ n. 128 * n) more in
    let most = sum_by-take-le (λ x. x) widths (i + 1) in
    rw (first, here, next) (block_of_sums bits (128 * sum widths) (sum (take i widths)) (get_or widths i 0) (narrow i inside) (omega arith)))

-- so many items as slots
pub boundary_items : (widths : List ℕ) → length (column_of_primitive (boundary_array widths)).items ≡ length widths + 1
boundary_items widths = length-items_of (boundary_array widths).validity (boundary_array widths).slots refl ∙ (length-map (boundaries_of widths) pos ∙ length-map-range_with_len (λ (k : ℕ). 128 * sum (take k widths)) 0 (length widths + 1))

pub boundary_type : (widths : List ℕ) → is_index_type (column_of_primitive (boundary_array widths)).dtype ≡ true
boundary_type widths = smallest_unsigned (128 * sum widths)

-- numbers that are stored are read as themselves
numbers_stored : (xs : List ℕ) → map unsigned_abs (map pos xs) ≡ xs
numbers_stored [] = refl
numbers_stored (x ∷ xs) = ap (λ (ys : List ℕ). x ∷ ys) (numbers_stored xs)

pub numbers_of_boundaries : (widths : List ℕ) → numbers (boundary_array widths) ≡ boundaries_of widths
numbers_of_boundaries widths = numbers_stored (boundaries_of widths)

pub packed_blocked : (p : PrimitiveParts) (patches : Option PatchesParts) (widths : List ℕ) (bytes : List ℕ) → AreConsistent (packed_parts p patches bytes) → length widths ≡ chunk_count (length p.slots) → ((j : ℕ) → j < length widths → get_or widths j 0 ≤ bits_of_type p.ptype)
    → ArePacked p.ptype p.slots (boundary_blocks (boundaries_of widths)) bytes → blocked_refusal (packed_parts p patches bytes) (column_of_primitive (boundary_array widths)) ≡ None
packed_blocked p patches widths bytes parts count narrow packed =
    let all : 0 + length p.slots ≡ length p.slots = omega arith in
    let typed = boundary_type widths in
    let read = numbers_of_index (boundary_array widths) typed ∙ numbers_of_boundaries widths in
    let joined = boundaries_joined widths (length widths) refl in
    let last : (boundary_blocks (boundaries_of widths)).start (length widths) ≡ 128 * sum widths = joined.last in
    let size : length bytes ≡ 128 * sum widths = packed.size ∙ (ap (λ n. (boundary_blocks (boundaries_of widths)).start n) (sym count) ∙ last) in
    let end : (boundary_blocks (boundaries_of widths)).start (chunk_count (0 + length p.slots)) ≡ length bytes = ap (λ n. (boundary_blocks (boundaries_of widths)).start (chunk_count n)) all ∙ sym packed.size in
    no_blocked_refusal (packed_parts p patches bytes) (column_of_primitive (boundary_array widths)) (record {
      parts = parts;
      typed = typed;
      count = boundary_items widths ∙ ap (λ n. n + 1) (count ∙ ap chunk_count (sym all));
      blocks = rw (read, size) (boundaries_are_blocks (bits_of_type p.ptype) widths narrow);
      span = rw read end;
    })

-- ---- the widths of least cost
pub chosen_are : (p : PrimitiveParts) (widths : List ℕ) (exceptions : ℕ) → choose_widths p ≡ Ok (record { widths = widths; exceptions = exceptions }) → widths ≡ best_widths_of p
chosen_are p widths exceptions e = elim (cases_Bool (list_any is_negative (items_of p.validity p.slots))) [
  | inl negative ↦ absurd (let refused : choose_widths p ≡ Err NegativeValue = rw negative refl in cc)
  | inr others ↦ (
      let made : choose_widths p ≡ Ok (chosen_widths p.ptype (items_of p.validity p.slots)) = rw others refl in
      let all : ChosenWidths = record { widths = widths; exceptions = exceptions } in
      let same : (let r : Result ChosenWidths FastLanesError = Ok all in r) ≡ Ok (chosen_widths p.ptype (items_of p.validity p.slots)) = sym e ∙ made in
      ap (λ (x : ChosenWidths). x.widths) (sym (ok_same _ _ same)))
]
