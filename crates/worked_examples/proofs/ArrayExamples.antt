-- Worked examples of every kind of array, by computation: the column of a tree, its type, its kind and its height.
use Rattle.std.specs.Prelude.{◌≡◌, ◌%◌, ◌==◌, ℕ, ℤ, pos, negsuc, Bool, true, false, List, [], ◌∷◌, ◌++◌, map, replicate, Some, None, refl, slice_index_or, if◌then◌else◌}
use Rattle.fastlanes.specs.Layout.{from_bits, packed_bit, place, row_of, segment, segment_lane, unpacked_bits, unpacked_item}
use Rattle.fl_types.specs.declared.dtype.PType.{PType}
use Rattle.fl_types.specs.declared.dtype.PType.TheVariants.{I16, I8, U16, U64, U8}
use Rattle.fl_types.specs.declared.dtype.DType.TheVariants as dtypes
use Rattle.fl_types.specs.declared.dtype.Nullability.TheVariants.{NonNullable, Nullable}
use Rattle.fl_types.specs.declared.validity.Validity.TheVariants as valid
use Rattle.fl_types.specs.Bits.{tabulate}
use Rattle.fl_types.specs.Values.{ScalarParts}
use Rattle.fl_column.specs.Columns.{PrimitiveParts}
use Rattle.fl_column.specs.Operations.{slice_of}
use Rattle.fl_patches.specs.PatchMaps.{PatchesParts}
use Rattle.fl_codec.specs.Deltas.{block_integer, lane_sum}
use Rattle.fl_bitpacking.specs.Blocks.{block_item, item_of_blocks}
use Rattle.fl_bitpacking.specs.Columns.{BitPackedParts, packed_item}
use Rattle.fl_array.specs.Trees.{Tree, column, height}
use Rattle.fl_array.specs.Trees as tree
use Rattle.fl_array.specs.Kinds.{IsBitPackedBlocked, IsBool, IsDelta, IsFoR, IsFoRChunked, IsPrimitive, IsRLE, has_delta, kind, plain_kind}

-- a plain array without nulls
abbrev non_nullable : PType → List ℤ → PrimitiveParts
non_nullable ptype slots = record { ptype = ptype; slots = slots; validity = valid.NonNullable }

-- the same as a tree
abbrev plain : PType → List ℤ → Tree
plain ptype slots = tree.Primitive (non_nullable ptype slots)

-- a reference of a type
abbrev reference : PType → ℤ → ScalarParts
reference ptype z = record { dtype = dtypes.Primitive ptype NonNullable; value = Some z }

-- ---- packed items
-- 1 at four positions of 128 bytes, else 0
abbrev four_ones : List ℕ
four_ones = tabulate (λ i. if i == 0 then 1 else if i == 16 then 1 else if i == 32 then 1 else if i == 48 then 1 else 0) 128

-- the patch of seven items of u64 at position 6
abbrev last_of_seven : PatchesParts
last_of_seven = record { array_len = 7; offset = 0; indices = non_nullable U8 (pos 6 ∷ []); values = record { ptype = U64; slots = pos 18446744073709551615 ∷ []; validity = valid.AllValid }; chunk_offsets = Some (non_nullable U64 (pos 0 ∷ [])) }

-- 1, null, 1, null, 1, null and the greatest u64 at width 1, the last one patched
abbrev ones_and_nulls : List Bool → BitPackedParts
ones_and_nulls bits = record { packed = four_ones; ptype = U64; validity = valid.Array bits; patches = Some last_of_seven; offset = 0; len = 7 }

patched : (column (tree.BitPackedGlobal (ones_and_nulls (true ∷ false ∷ true ∷ false ∷ true ∷ false ∷ true ∷ [])) 1)).items ≡ Some (pos 1) ∷ None ∷ Some (pos 1) ∷ None ∷ Some (pos 1) ∷ None ∷ Some (pos 18446744073709551615) ∷ []
unfolding packed_item item_of_blocks block_item unpacked_item unpacked_bits from_bits packed_bit row_of
patched = refl

-- a null hides its patch
patch_under_a_null : (column (tree.BitPackedGlobal (ones_and_nulls (true ∷ false ∷ true ∷ false ∷ true ∷ false ∷ false ∷ [])) 1)).items ≡ Some (pos 1) ∷ None ∷ Some (pos 1) ∷ None ∷ Some (pos 1) ∷ None ∷ None ∷ []
unfolding packed_item item_of_blocks block_item unpacked_item unpacked_bits from_bits packed_bit row_of
patch_under_a_null = refl

-- where there is a bit for each item, nulls may stand in the column
nullable : (column (tree.BitPackedGlobal (ones_and_nulls (true ∷ true ∷ true ∷ true ∷ true ∷ true ∷ true ∷ [])) 1)).dtype ≡ dtypes.Primitive U64 Nullable
nullable = refl

-- the last two items of a block of threes at width 2, and the first two of a block of zeros behind it
across_blocks : (column (tree.BitPackedGlobal (record { packed = replicate 256 255 ++ replicate 256 0; ptype = U16; validity = valid.NonNullable; patches = None; offset = 1022; len = 4 }) 2)).items ≡ Some (pos 3) ∷ Some (pos 3) ∷ Some (pos 0) ∷ Some (pos 0) ∷ []
unfolding packed_item item_of_blocks block_item unpacked_item unpacked_bits from_bits packed_bit row_of
across_blocks = refl

-- an unsigned pattern is read as the type
signed_bytes : (column (tree.BitPackedGlobal (record { packed = replicate 1024 255; ptype = I8; validity = valid.NonNullable; patches = None; offset = 0; len = 3 }) 8)).items ≡ Some (negsuc 0) ∷ Some (negsuc 0) ∷ Some (negsuc 0) ∷ []
unfolding packed_item item_of_blocks block_item unpacked_item unpacked_bits from_bits packed_bit row_of
signed_bytes = refl

-- a block of threes at width 2 and one of nothing, from an offset on, with a patch in the second
abbrev threes : BitPackedParts
threes = record { packed = replicate 256 255; ptype = U16; validity = valid.NonNullable; patches = Some (record { array_len = 5; offset = 1020; indices = non_nullable U16 (pos 1024 ∷ []); values = non_nullable U16 (pos 1000 ∷ []); chunk_offsets = None }); offset = 1020; len = 5 }

boundaries : (column (tree.BitPackedBlocked threes (plain U16 (pos 0 ∷ pos 256 ∷ pos 256 ∷ [])))).items ≡ Some (pos 3) ∷ Some (pos 3) ∷ Some (pos 3) ∷ Some (pos 3) ∷ Some (pos 1000) ∷ []
unfolding packed_item item_of_blocks block_item unpacked_item unpacked_bits from_bits packed_bit row_of
boundaries = refl

-- the first boundary need not be 0
boundary_later : (column (tree.BitPackedBlocked threes (plain U16 (pos 10 ∷ pos 266 ∷ pos 266 ∷ [])))).items ≡ Some (pos 3) ∷ Some (pos 3) ∷ Some (pos 3) ∷ Some (pos 3) ∷ Some (pos 1000) ∷ []
unfolding packed_item item_of_blocks block_item unpacked_item unpacked_bits from_bits packed_bit row_of
boundary_later = refl

-- ---- frames of reference
wrapped : (column (tree.FoRGlobal (plain U8 (pos 0 ∷ pos 100 ∷ pos 200 ∷ [])) (reference U8 (pos 100)))).items ≡ Some (pos 100) ∷ Some (pos 200) ∷ Some (pos 44) ∷ []
wrapped = refl

below_zero : (column (tree.FoRGlobal (plain I8 (negsuc 9 ∷ negsuc 4 ∷ pos 0 ∷ [])) (reference I8 (negsuc 99)))).items ≡ Some (negsuc 109) ∷ Some (negsuc 104) ∷ Some (negsuc 99) ∷ []
below_zero = refl

-- 24 items of the first chunk and 6 of the second
chunked : (column (tree.FoRChunked (plain I16 (replicate 30 (pos 0))) (plain I16 (pos 5 ∷ negsuc 6 ∷ [])) 1000)).items ≡ replicate 24 (Some (pos 5)) ++ replicate 6 (Some (negsuc 6))
chunked = refl

-- the same as a slice of two chunks of zeros
abbrev two_chunks : Tree
two_chunks = tree.FoRChunked (plain I16 (replicate 2048 (pos 0))) (plain I16 (pos 5 ∷ negsuc 6 ∷ [])) 0

chunked_slice : (slice_of 1000 1030 (column two_chunks)).items ≡ replicate 24 (Some (pos 5)) ++ replicate 6 (Some (negsuc 6))
chunked_slice = refl

-- a frame has the type of what it encodes
framed_type : (column two_chunks).dtype ≡ dtypes.Primitive I16 NonNullable
framed_type = refl

-- a frame over a frame adds both references
nested : (column (tree.FoRGlobal (tree.FoRGlobal (plain U8 (pos 1 ∷ pos 2 ∷ [])) (reference U8 (pos 250))) (reference U8 (pos 10)))).items ≡ Some (pos 5) ∷ Some (pos 6) ∷ []
nested = refl

-- ---- runs
-- the chunk's indices 0, 0, 1, null and 1, and nulls behind
abbrev few_indices : PrimitiveParts
few_indices = record { ptype = U16; slots = pos 0 ∷ pos 0 ∷ replicate 1022 (pos 1); validity = valid.Array (true ∷ true ∷ true ∷ false ∷ true ∷ replicate 1019 false) }

runs : (column (tree.RLE (plain U8 (pos 5 ∷ pos 7 ∷ [])) (tree.Primitive few_indices) (plain U64 (pos 0 ∷ [])) (record { offset = 0; len = 5 }))).items ≡ Some (pos 5) ∷ Some (pos 5) ∷ Some (pos 7) ∷ None ∷ Some (pos 7) ∷ []
runs = refl

-- nulls may stand in runs where they may in the indices, and the integers are of the values' type
runs_type : (column (tree.RLE (plain U8 (pos 5 ∷ pos 7 ∷ [])) (tree.Primitive few_indices) (plain U64 (pos 0 ∷ [])) (record { offset = 0; len = 5 }))).dtype ≡ dtypes.Primitive U8 Nullable
runs_type = refl

-- run offsets are counted from the first one
later_runs : (column (tree.RLE (plain U8 (pos 1 ∷ pos 2 ∷ pos 3 ∷ pos 4 ∷ [])) (plain U8 (replicate 2048 (pos 1))) (plain U64 (pos 3 ∷ pos 5 ∷ [])) (record { offset = 1022; len = 4 }))).items ≡ Some (pos 2) ∷ Some (pos 2) ∷ Some (pos 4) ∷ Some (pos 4) ∷ []
later_runs = refl

-- ---- differences
-- base l of the block of the items i mod 256: 64 times l mod 16 and 8 times O of l div 16, modulo 256
abbrev bases_in_turn : List ℤ
bases_in_turn = tabulate (λ l. pos (segment l % 256)) 128

-- the block is itself: 128 zeros and then ones, over those bases
in_turn : (column (tree.Delta (plain U8 bases_in_turn) (plain U8 (replicate 128 (pos 0) ++ replicate 896 (pos 1))) (record { validity = valid.NonNullable; offset = 0; len = 1024 }))).items ≡ tabulate (λ i. Some (pos (i % 256))) 1024
unfolding block_integer lane_sum segment segment_lane place
in_turn = refl

three_bases : map (λ k. slice_index_or bases_in_turn k (pos 0)) (1 ∷ 4 ∷ 16 ∷ []) ≡ pos 64 ∷ pos 0 ∷ pos 32 ∷ []
unfolding segment
three_bases = refl

-- a part of that block, from an offset on, with a null
part_in_turn : column (tree.Delta (plain U8 bases_in_turn) (plain U8 (replicate 128 (pos 0) ++ replicate 896 (pos 1))) (record { validity = valid.Array (true ∷ false ∷ true ∷ []); offset = 254; len = 3 })) ≡ record { dtype = dtypes.Primitive U8 Nullable; items = Some (pos 254) ∷ None ∷ Some (pos 0) ∷ [] }
unfolding block_integer lane_sum segment segment_lane place
part_in_turn = refl

-- ---- kinds and heights
-- a FoR array over blocks of widths of their own, whose boundaries are a delta array
abbrev deep : Tree
deep = tree.FoRGlobal (tree.BitPackedBlocked threes (tree.Delta (plain U16 []) (plain U16 []) (record { validity = valid.NonNullable; offset = 0; len = 0 }))) (reference U16 (pos 1))

deep_kind : kind deep ≡ IsFoR (IsBitPackedBlocked (IsDelta IsPrimitive IsPrimitive))
deep_kind = refl

deep_height : height deep ≡ 3
deep_height = refl

deep_sums : has_delta (kind deep) ≡ true
deep_sums = refl

deep_decoded : plain_kind (kind deep) ≡ IsPrimitive
deep_decoded = refl

-- a run-length encoded array, whose indices are a chunked FoR array
abbrev rle_over_for : Tree
rle_over_for = tree.RLE (plain U8 []) two_chunks (plain U64 []) (record { offset = 0; len = 0 })

rle_over_for_kind : kind rle_over_for ≡ IsRLE IsPrimitive (IsFoRChunked IsPrimitive IsPrimitive) IsPrimitive
rle_over_for_kind = refl

rle_over_for_height : height rle_over_for ≡ 2
rle_over_for_height = refl

rle_over_for_sum_nothing : has_delta (kind rle_over_for) ≡ false
rle_over_for_sum_nothing = refl

-- truth values stay such
bools_decoded : plain_kind (kind (tree.Bool (record { bits = true ∷ []; validity = valid.NonNullable }))) ≡ IsBool
bools_decoded = refl
