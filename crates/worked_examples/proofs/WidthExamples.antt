-- Definitions held against worked examples, by computing.
use Rattle.std.proofs.Common.{◌≡◌, ◌+◌, ℤ, pos, negsuc, true, false, List, [], ◌∷◌, ◌++◌, map, replicate, Option, Some, None, Ok, Err, refl}
use Rattle.fl_types.specs.declared.dtype.PType.TheVariants.{U8, U16, U32, U64, I8}
use Rattle.fl_types.specs.declared.error.FastLanesError.TheVariants.{NegativeValue, TooManyWidths}
use Rattle.fl_types.specs.declared.validity.Validity.TheVariants as valid
use Rattle.fl_types.specs.Bits.{tabulate}
use Rattle.fl_types.specs.Integers.{smallest_type}
use Rattle.fl_column.specs.Columns.{PrimitiveParts}
use Rattle.fl_patches.specs.PatchMaps.{places_from}
use Rattle.fl_patches.specs.Costs.{best_width, best_widths, block_histogram, choose_width, choose_widths, cost_of, first_widths}
use Rattle.fl_patches.specs.Exceptions.{bit_count, count_with_bits, exceptions_of, histogram_of, width_of_block}
use Rattle.fl_patches.specs.PatchParts.{chunk_offsets_of, global_patches}

bits : map bit_count (0 ∷ 1 ∷ 2 ∷ 3 ∷ 255 ∷ 256 ∷ 9223372036854775808 ∷ 18446744073709551615 ∷ []) ≡ 0 ∷ 1 ∷ 2 ∷ 2 ∷ 8 ∷ 9 ∷ 64 ∷ 64 ∷ []
unfolding bit_count
bits = refl

-- 0 to 23, null from 16 on: a null counts as width 0
counted : histogram_of U32 (tabulate (λ n. Some (pos n)) 16 ++ replicate 8 None) ≡ 9 ∷ 1 ∷ 2 ∷ 4 ∷ 8 ∷ replicate 28 0
unfolding bit_count count_with_bits
counted = refl

-- a negative byte has all its bits
negative : histogram_of I8 (Some (negsuc 0) ∷ []) ≡ replicate 8 0 ++ 1 ∷ []
unfolding bit_count count_with_bits
negative = refl

costs : map (cost_of U8 (0 ∷ 10 ∷ 20 ∷ 15 ∷ 1 ∷ 0 ∷ 0 ∷ 0 ∷ [])) (0 ∷ 1 ∷ 2 ∷ 3 ∷ 4 ∷ []) ≡ 230 ∷ 186 ∷ 92 ∷ 23 ∷ 23 ∷ []
unfolding cost_of
costs = refl

chosen : choose_width U8 (0 ∷ 10 ∷ 20 ∷ 15 ∷ 1 ∷ 0 ∷ 0 ∷ 0 ∷ []) ≡ Ok 3
unfolding cost_of best_width
chosen = refl

chosen_of_none : choose_width U8 [] ≡ Ok 0
unfolding best_width
chosen_of_none = refl

too_many : choose_width U8 (replicate 256 0) ≡ Err TooManyWidths
too_many = refl

native : best_width U8 (0 ∷ 0 ∷ 0 ∷ 0 ∷ 0 ∷ 0 ∷ 0 ∷ 0 ∷ 100 ∷ []) ≡ 8
unfolding cost_of best_width
native = refl

-- 1024 of 3, then 1000: the widths 2 and 0, and one exception
abbrev two_blocks : List (Option ℤ)
two_blocks = replicate 1024 (Some (pos 3)) ++ Some (pos 1000) ∷ []

widths : best_widths U16 two_blocks ≡ 2 ∷ 0 ∷ []
unfolding bit_count count_with_bits block_histogram cost_of best_width first_widths
widths = refl

one_exception : places_from 0 (exceptions_of U16 (width_of_block (2 ∷ 0 ∷ [])) two_blocks) ≡ 1024 ∷ []
unfolding bit_count exceptions_of
one_exception = refl

-- an empty column
abbrev empty : PrimitiveParts
empty = record { ptype = U32; slots = []; validity = valid.NonNullable }

no_widths : choose_widths empty ≡ Ok (record { widths = []; exceptions = 0 })
unfolding exceptions_of first_widths
no_widths = refl

-- a valid negative item, and one under a null
refused : choose_widths (record { ptype = I8; slots = negsuc 0 ∷ []; validity = valid.NonNullable }) ≡ Err NegativeValue
refused = refl

-- 1, null, 1, null, 1, null, 18446744073709551615 at width 1: one patch at 6
abbrev seven : PrimitiveParts
seven = record { ptype = U64; slots = pos 1 ∷ pos 0 ∷ pos 1 ∷ pos 0 ∷ pos 1 ∷ pos 0 ∷ pos 18446744073709551615 ∷ []; validity = valid.Array (true ∷ false ∷ true ∷ false ∷ true ∷ false ∷ true ∷ []) }

patched : global_patches 1 seven ≡ Some (record {
  array_len = 7;
  offset = 0;
  indices = record { ptype = U8; slots = pos 6 ∷ []; validity = valid.NonNullable };
  values = record { ptype = U64; slots = pos 18446744073709551615 ∷ []; validity = valid.AllValid };
  chunk_offsets = Some (record { ptype = U64; slots = pos 0 ∷ []; validity = valid.NonNullable });
})
unfolding bit_count exceptions_of chunk_offsets_of
patched = refl

-- the same at width 64: none
unpatched : global_patches 64 seven ≡ None
unfolding bit_count exceptions_of
unpatched = refl

-- the index types of global patches: each bound itself takes the next type
index_types : map (λ n. smallest_type (n + 1)) (254 ∷ 255 ∷ 65534 ∷ 65535 ∷ 4294967294 ∷ 4294967295 ∷ []) ≡ U8 ∷ U16 ∷ U16 ∷ U32 ∷ U32 ∷ U64 ∷ []
index_types = refl

-- and of blocked ones
blocked_index_types : map smallest_type (255 ∷ 256 ∷ 65535 ∷ 65536 ∷ 4294967295 ∷ 4294967296 ∷ []) ≡ U8 ∷ U16 ∷ U16 ∷ U32 ∷ U32 ∷ U64 ∷ []
blocked_index_types = refl

-- 4096 items with patches at 100, 200, 3000, 3100
offsets : chunk_offsets_of 4096 (100 ∷ 200 ∷ 3000 ∷ 3100 ∷ []) ≡ 0 ∷ 2 ∷ 2 ∷ 3 ∷ []
unfolding chunk_offsets_of
offsets = refl
