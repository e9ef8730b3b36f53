-- Patches: a finite map from positions of an array to values.
use Rattle.std.specs.Prelude.{◌≡◌, ◌+◌, ◌-◌, ◌*◌, ◌/◌, ◌==◌, ◌&&◌, ◌<◌, ◌≤◌, ◌↔◌, IsNone, ℕ, ℤ, pos, Bool, true, not, List, [], ◌∷◌, length, map, Option, Some, None, Result, Ok, Err, option_map, option_and_then, is_none, nat_lt, nat_le, if◌then◌else◌, count_by, slice_index_or, unsigned_abs}
use Rattle.std.specs.List.{list_all, list_any, enumerate_from}
use Rattle.fl_types.specs.declared.dtype.PType.{PType}
use Rattle.fl_types.specs.declared.dtype.Nullability.{Nullability}
use Rattle.fl_types.specs.declared.error.FastLanesError.{FastLanesError}
use Rattle.fl_types.specs.declared.error.FastLanesError.TheVariants.{PatchType, PatchLength, PatchContent}
use Rattle.fl_types.specs.declared.mask.Mask.{Mask}
use Rattle.fl_types.specs.Bits.{tabulate}
use Rattle.fl_types.specs.Masks.{mask_bits}
use Rattle.fl_types.specs.Types.{is_index_type}
use Rattle.fl_types.specs.Validities.{full_validity, nullability_of}
use Rattle.fl_column.specs.Chunks.{chunk_count}
use Rattle.fl_column.specs.Columns.{PrimitiveParts, column_of_primitive, option_all, slice_primitive}
use Rattle.fl_column.specs.Numbers.{index_array, numbers}
use Rattle.fl_column.specs.Operations.{kept}
use Rattle.fl_column.specs.Queries.{each_next}
use Rattle.fl_column.specs.Selections.{positions_in}

-- the parts of patches: the value at a position is the one beside the index that is offset + position
pub record PatchesParts : Type 0 where
  pub array_len : ℕ
  pub offset : ℕ
  pub indices : PrimitiveParts
  pub values : PrimitiveParts
  pub chunk_offsets : Option PrimitiveParts

-- ---- the map
-- the place of an index among the indices, if it is one of them
abbrev pub rank_of : ℕ → List ℕ → Option ℕ
rank_of index [] = None
rank_of index (x ∷ indices) = if x == index then Some 0 else option_map (λ rank. rank + 1) (rank_of index indices)

-- the value at a position, if it is patched
abbrev pub patched : PatchesParts → ℕ → Option ℤ
patched p i = option_map (λ rank. slice_index_or p.values.slots rank (pos 0)) (rank_of (p.offset + i) (numbers p.indices))

-- the same where there may be no patches
abbrev pub patched_in : Option PatchesParts → ℕ → Option ℤ
patched_in patches i = option_and_then (λ p. patched p i) patches

-- The patches are those of a map on the positions below len, and there are none exactly where it is empty.
pub record ArePatches (patches : Option PatchesParts) (len : ℕ) (at : ℕ → Option ℤ) : Type 0 where
  pub values : (i : ℕ) → i < len → patched_in patches i ≡ at i
  pub none : IsNone patches ↔ ((i : ℕ) → i < len → at i ≡ None)

-- ---- what patches must be
-- how many indices are below a number
abbrev pub count_below : ℕ → List ℕ → ℕ
count_below limit indices = count_by (λ index. nat_lt index limit) indices

-- an index stands from start to below end among the indices, if it is one of them
pub record IsSearchRange (index : ℕ) (indices : List ℕ) (start end : ℕ) : Type 0 where
  pub low : start ≤ count_below index indices
  pub high : count_below (index + 1) indices ≤ end
  pub within : end ≤ length indices

-- the place of the first index of chunk k, and the place behind its last one, where indices count from offset 0
abbrev pub chunk_places : List ℕ → ℕ → ℕ × ℕ
chunk_places indices k = (count_below (1024 * k) indices, count_below (1024 * (k + 1)) indices)

-- each number is below the next
abbrev pub is_rising : List ℕ → Bool
is_rising indices = each_next nat_lt indices

-- chunk offset k is the number of indices below 1024 * k
abbrev pub are_chunk_offsets : List ℕ → List ℕ → Bool
are_chunk_offsets indices offsets = list_all (λ o. o.1 == count_below (1024 * o.0) indices) (enumerate_from 0 offsets)

-- indices and chunk offsets are of unsigned types and cannot be null
abbrev pub patch_types_fit : PatchesParts → Bool
patch_types_fit p = is_index_type (column_of_primitive p.indices).dtype && option_all (λ c. is_index_type (column_of_primitive c).dtype) p.chunk_offsets

-- there is a patch, a value for each index, and a chunk offset for each chunk where there are chunk offsets
abbrev pub patch_lengths_fit : PatchesParts → Bool
patch_lengths_fit p =
    (length p.indices.slots == length p.values.slots)
    && (nat_lt 0 (length p.indices.slots)
    && option_all (λ c. length c.slots == chunk_count p.array_len) p.chunk_offsets)

-- an index is that of a position of the array
abbrev pub is_index_within : ℕ → ℕ → ℕ → Bool
is_index_within offset array_len index = nat_le offset index && nat_lt index (offset + array_len)

-- indices rise and lie within the array, no value is null, and chunk offsets count the indices before each chunk and go with the offset 0 alone
abbrev pub patch_contents_fit : PatchesParts → Bool
patch_contents_fit p =
    is_rising (numbers p.indices)
    && (list_all (is_index_within p.offset p.array_len) (numbers p.indices)
    && (not (list_any is_none (column_of_primitive p.values).items)
    && option_all (λ c. (p.offset == 0) && are_chunk_offsets (numbers p.indices) (numbers c)) p.chunk_offsets))

-- the index of each position of chunk k stands from start to below end among the indices, if it is one of them
abbrev pub IsChunkRange : PatchesParts → ℕ → ℕ → ℕ → Type 0
IsChunkRange p k start end = (i : ℕ) → i / 1024 ≡ k → IsSearchRange (p.offset + i) (numbers p.indices) start end

-- why parts are no patches, the first reason that holds
abbrev pub refusal_of : PatchesParts → Option FastLanesError
refusal_of p =
    if not (patch_types_fit p) then Some PatchType
    else if not (patch_lengths_fit p) then Some PatchLength
    else if not (patch_contents_fit p) then Some PatchContent
    else None

-- the parts, unless there is a reason against them
abbrev pub accepted : PatchesParts → Option FastLanesError → Result PatchesParts FastLanesError
accepted p None = Ok p
accepted p (Some refusal) = Err refusal

-- patches of these parts, or why there are none
abbrev pub new_patches : ℕ → ℕ → PrimitiveParts → PrimitiveParts → Option PrimitiveParts → Result PatchesParts FastLanesError
new_patches array_len offset indices values chunk_offsets =
    let p : PatchesParts = record { array_len = array_len; offset = offset; indices = indices; values = values; chunk_offsets = chunk_offsets } in
    accepted p (refusal_of p)

-- ---- slice
-- how many patches stand before a position
abbrev pub patches_before : ℕ → PatchesParts → ℕ
patches_before i p = count_below (p.offset + i) (numbers p.indices)

-- the patches of the items from start to below end, if there is one
abbrev pub slice_patches : ℕ → ℕ → PatchesParts → Option PatchesParts
slice_patches start end p =
    let first = patches_before start p in
    let last = patches_before end p in
    if first == last then None
    else Some (record { array_len = end - start; offset = p.offset + start; indices = slice_primitive first last p.indices; values = slice_primitive first last p.values; chunk_offsets = None })

-- ---- take and filter
-- the places of a list that hold a value, counted from n
abbrev pub places_from : {A : Type 0} → ℕ → List (Option A) → List ℕ
places_from n [] = []
places_from n (None ∷ items) = places_from (n + 1) items
places_from n (Some x ∷ items) = n ∷ places_from (n + 1) items

-- the values that a list holds
abbrev pub values_in : {A : Type 0} → List (Option A) → List A
values_in [] = []
values_in (None ∷ items) = values_in items
values_in (Some x ∷ items) = x ∷ values_in items

-- patches with these places and values, if there is one
abbrev pub patches_at : ℕ → PType → Nullability → List ℕ → List ℤ → Option PatchesParts
patches_at len ptype nullability [] values = None
patches_at len ptype nullability (place ∷ places) values = Some (record {
  array_len = len;
  offset = 0;
  indices = index_array len (place ∷ places);
  values = record { ptype = ptype; slots = values; validity = full_validity nullability };
  chunk_offsets = None;
})

-- patches that give each position its item, if there is one
abbrev pub patches_of_items : PType → Nullability → List (Option ℤ) → Option PatchesParts
patches_of_items ptype nullability items = patches_at (length items) ptype nullability (places_from 0 items) (values_in items)

-- the patches of a selection, whose item j is the one at the j-th of the positions and is not patched where that is none
abbrev pub select_patches : List (Option ℕ) → PatchesParts → Option PatchesParts
select_patches positions p = patches_of_items p.values.ptype (nullability_of p.values.validity) (map (option_and_then (patched p)) positions)

-- the patches of the items at positions, if there is one, or why there are no positions
abbrev pub selected_patches : PatchesParts → Result (List (Option ℕ)) FastLanesError → Result (Option PatchesParts) FastLanesError
selected_patches p (Ok positions) = Ok (select_patches positions p)
selected_patches p (Err refusal) = Err refusal

-- the patches of the items that the indices name, if there is one, or why there is no take
abbrev pub take_patches : List (Option ℤ) → PatchesParts → Result (Option PatchesParts) FastLanesError
take_patches indices p = selected_patches p (positions_in p.array_len indices)

-- the value at the position that the j-th index names; a null names none
abbrev pub patched_in_take : List (Option ℤ) → PatchesParts → ℕ → Option ℤ
patched_in_take indices p j = option_and_then (λ z. patched p (unsigned_abs z)) (slice_index_or indices j None)

-- the positions that a mask keeps, rising
abbrev pub kept_positions : Mask → ℕ → List ℕ
kept_positions mask len = kept (mask_bits mask) (tabulate (λ i. i) len)

-- the patches of the items that the mask keeps, if there is one
abbrev pub filter_patches : Mask → PatchesParts → Option PatchesParts
filter_patches mask p = select_patches (map (λ i. Some i) (kept_positions mask p.array_len)) p

-- the value at the j-th position that the mask keeps
abbrev pub patched_in_filter : Mask → PatchesParts → ℕ → Option ℤ
patched_in_filter mask p j = patched p (slice_index_or (kept_positions mask p.array_len) j 0)

-- ---- patches that are found one by one
-- places and ranks are those of the items that have a rank
pub record AreFound (places ranks : List ℕ) (items : List (Option ℕ)) : Type 0 where
  pub placed : places ≡ places_from 0 items
  pub ranked : ranks ≡ values_in items

-- places rise below len, and beside each stands a rank below count
pub record AreOrdered (places ranks : List ℕ) (len count : ℕ) : Type 0 where
  pub rising : is_rising places ≡ true
  pub below : list_all (λ place. nat_lt place len) places ≡ true
  pub even : length ranks ≡ length places
  pub ranked : list_all (λ rank. nat_lt rank count) ranks ≡ true

-- the ranks of the patches at positions
abbrev pub ranks_at : ℕ → List ℕ → List (Option ℕ) → List (Option ℕ)
ranks_at offset indices positions = map (option_and_then (λ i. rank_of (offset + i) indices)) positions

-- the ranks of the patches at the first positions
abbrev pub ranks_to : ℕ → List ℕ → ℕ → List (Option ℕ)
ranks_to offset indices len = ranks_at offset indices (map (λ i. Some i) (tabulate (λ i. i) len))

-- places and ranks are those of the patches at the first positions, wherever this many indices stand before their end
abbrev pub AreFoundTo : ℕ → List ℕ → ℕ → List ℕ → List ℕ → Type 0
AreFoundTo offset indices count places ranks = (len : ℕ) → count_below (offset + len) indices ≡ count → AreFound places ranks (ranks_to offset indices len)
