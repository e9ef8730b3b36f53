-- The patches that an array needs where widths leave items out.
use Rattle.std.specs.Prelude.{◌≡◌, ◌+◌, ◌*◌, ℕ, ℤ, pos, true, List, [], ◌∷◌, length, map, Option, Some, None, nat_lt, slice_index_or, take}
use Rattle.std.specs.List.{list_all}
use Rattle.fl_types.specs.declared.dtype.PType.{PType}
use Rattle.fl_types.specs.declared.dtype.PType.TheVariants.{U64}
use Rattle.fl_types.specs.declared.dtype.Nullability.{Nullability}
use Rattle.fl_types.specs.Bits.{tabulate}
use Rattle.fl_types.specs.Integers.{smallest_type}
use Rattle.fl_types.specs.Validities.{items_of, nullability_of}
use Rattle.fl_column.specs.Columns.{PrimitiveParts, non_nullable, without_nulls}
use Rattle.fl_column.specs.Chunks.{chunk_count}
use Rattle.fl_patches.specs.PatchMaps.{PatchesParts, count_below, is_rising, places_from, values_in}
use Rattle.fl_patches.specs.Exceptions.{exception, exceptions_of, one_width, width_of_block}

-- for each chunk of 1024 of this many items, how many of the places stand before it
unfoldable pub chunk_offsets_of : ℕ → List ℕ → List ℕ
chunk_offsets_of len places = tabulate (λ k. count_below (1024 * k) places) (chunk_count len)

-- patches with these places and values, with indices of this type and chunk offsets, if there is one
abbrev pub patches_with : PType → ℕ → PType → Nullability → List ℕ → List ℤ → Option PatchesParts
patches_with index_type len ptype nullability [] values = None
patches_with index_type len ptype nullability (place ∷ places) values = Some (record {
  array_len = len;
  offset = 0;
  indices = non_nullable index_type (map pos (place ∷ places));
  values = without_nulls ptype nullability values;
  chunk_offsets = Some (non_nullable U64 (map pos (chunk_offsets_of len (place ∷ places))));
})

-- the patches of an array's exceptions at the width of each place, if there is one
abbrev pub exception_patches : PType → (ℕ → ℕ) → PrimitiveParts → Option PatchesParts
exception_patches index_type width p =
    let exceptions : List (Option ℤ) = exceptions_of p.ptype width (items_of p.validity p.slots) in
    patches_with index_type (length p.slots) p.ptype (nullability_of p.validity) (places_from 0 exceptions) (values_in exceptions)

-- at one width; the index type holds one more than the length: U8 below 255 items, U16 below 65535, U32 below 4294967295
abbrev pub global_patches : ℕ → PrimitiveParts → Option PatchesParts
global_patches width p = exception_patches (smallest_type (length p.slots + 1)) (one_width width) p

-- at a width for each block; the index type holds the length
abbrev pub blocked_patches : List ℕ → PrimitiveParts → Option PatchesParts
blocked_patches widths p = exception_patches (smallest_type (length p.slots)) (width_of_block widths) p

-- the value of an item with more bits than the width of its place
abbrev pub exception_at : (ℕ → ℕ) → PrimitiveParts → ℕ → Option ℤ
exception_at width p i = exception p.ptype (width i) (slice_index_or (items_of p.validity p.slots) i None)

-- how many patches there are
abbrev pub patch_count : Option PatchesParts → ℕ
patch_count None = 0
patch_count (Some p) = length p.indices.slots

-- ---- exceptions that are found one by one
-- places and values are those of the items that are there
pub record AreGathered (places : List ℕ) (values : List ℤ) (items : List (Option ℤ)) : Type 0 where
  pub placed : places ≡ places_from 0 items
  pub valued : values ≡ values_in items

-- for each of the first blocks, how many of the items before it are there
unfoldable pub counts_before : List (Option ℤ) → ℕ → List ℕ
counts_before items blocks = tabulate (λ k. length (values_in (take (1024 * k) items))) blocks

-- places and values are those of the items of the first blocks that are there, and the offsets count them
pub record HasBlocks (places : List ℕ) (values : List ℤ) (offsets : List ℕ) (items : List (Option ℤ)) (blocks : ℕ) : Type 0 where
  pub gathered : AreGathered places values (take (1024 * blocks) items)
  pub counted : offsets ≡ counts_before items blocks

-- places rise below len, beside each stands a value, and the offsets count the places before each chunk
pub record AreChunked (places : List ℕ) (values : List ℤ) (offsets : List ℕ) (len : ℕ) : Type 0 where
  pub rising : is_rising places ≡ true
  pub below : list_all (λ place. nat_lt place len) places ≡ true
  pub even : length values ≡ length places
  pub counted : offsets ≡ chunk_offsets_of len places
