-- Definitions held against worked examples, by computing.
use Rattle.std.specs.Prelude.{◌≡◌, ◌%◌, ◌==◌, ◌+ℤ◌, ℕ, ℤ, pos, negsuc, List, [], ◌∷◌, ◌++◌, map, replicate, slice_index_or, true, false, Option, Some, None, refl, if◌then◌else◌}
use Rattle.fastlanes.specs.Layout.{row_of, segment}
use Rattle.fl_types.specs.declared.dtype.PType.TheVariants.{U8, U32, U64, I8, I16}
use Rattle.fl_types.specs.declared.dtype.DType.TheVariants.{Primitive}
use Rattle.fl_types.specs.declared.dtype.Nullability.TheVariants.{NonNullable}
use Rattle.fl_types.specs.Bits.{tabulate}
use Rattle.fl_types.specs.Integers.{pattern_of}
use Rattle.fl_column.specs.Columns.{Column}
use Rattle.fl_codec.specs.Deltas.{delta_bases, delta_deltas, delta_of}
use Rattle.fl_codec.specs.ForwardFill.{Carry, Reset, fill_forward}
use Rattle.fl_codec.specs.FoRColumns.{chunk_references, chunked_for, global_for, least_by, least_valid, minus_reference, reading}
use Rattle.fl_codec.specs.declared.for_.ItemOrder.TheVariants.{Signed}
use Rattle.fl_codec.specs.RunColumns.{are_run_offsets, chunk_start, run_item}
use Rattle.fl_codec.specs.Runs.{chunk_values, offsets_to, values_to}

abbrev column_of_bytes : List (Option ℤ) → Column
column_of_bytes items = record { dtype = Primitive U8 NonNullable; items = items }

-- ---- frames of reference
-- -128 to 127 less -128, read without a sign, are 0 to 255
abbrev signed_bytes : List (Option ℤ)
signed_bytes = tabulate (λ n. Some (negsuc 127 +ℤ pos n)) 256

least_byte : least_valid signed_bytes ≡ Some (negsuc 127)
least_byte = refl

child_of_bytes : map (λ item. pattern_of I8 (minus_reference I8 (negsuc 127) item)) signed_bytes ≡ tabulate (λ n. n) 256
child_of_bytes = refl

-- of 255, 0 and 2 the least byte, and the least one that is read as signed
bytes_about_zero_least : least_valid (Some (pos 255) ∷ Some (pos 0) ∷ Some (pos 2) ∷ []) ≡ Some (pos 0)
bytes_about_zero_least = refl

bytes_about_zero_wrapped : least_by (reading Signed U8) (Some (pos 255) ∷ Some (pos 0) ∷ None ∷ Some (pos 2) ∷ []) ≡ Some (pos 255)
bytes_about_zero_wrapped = refl

-- less 255 they are 0, 1 and 3
bytes_about_zero : map (minus_reference U8 (pos 255)) (Some (pos 255) ∷ Some (pos 0) ∷ Some (pos 2) ∷ []) ≡ pos 0 ∷ pos 1 ∷ pos 3 ∷ []
bytes_about_zero = refl

-- 0, 100, 200 plus 100
wrapped_sums : (global_for (pos 100) (column_of_bytes (Some (pos 0) ∷ Some (pos 100) ∷ Some (pos 200) ∷ []))).items ≡ Some (pos 100) ∷ Some (pos 200) ∷ Some (pos 44) ∷ []
wrapped_sums = refl

-- -10, -5, 0 plus -100
signed_sums : (global_for (negsuc 99) (record { dtype = Primitive I8 NonNullable; items = Some (negsuc 9) ∷ Some (negsuc 4) ∷ Some (pos 0) ∷ [] })).items ≡ Some (negsuc 109) ∷ Some (negsuc 104) ∷ Some (negsuc 99) ∷ []
signed_sums = refl

-- a chunk of 5 and a chunk of -7
two_references : chunk_references (λ z. z) (replicate 1024 (Some (pos 5)) ++ replicate 1024 (Some (negsuc 6))) ≡ pos 5 ∷ negsuc 6 ∷ []
two_references = refl

-- leading nulls take the reference behind them, later ones that before
leading_nulls : chunk_references (λ z. z) (replicate 1024 None ++ replicate 1024 (Some (pos 9))) ≡ pos 9 ∷ pos 9 ∷ []
leading_nulls = refl

nulls_between : chunk_references (λ z. z) (replicate 1024 (Some (pos 9)) ++ replicate 1024 None ++ Some (pos 3) ∷ []) ≡ pos 9 ∷ pos 9 ∷ pos 3 ∷ []
nulls_between = refl

-- thirty items from position 1000 on
across_chunks : (chunked_for (pos 5 ∷ negsuc 6 ∷ []) 1000 (record { dtype = Primitive I16 NonNullable; items = replicate 30 (Some (pos 0)) })).items ≡ replicate 24 (Some (pos 5)) ++ replicate 6 (Some (negsuc 6))
across_chunks = refl

-- ---- deltas
-- item i is i modulo 256
abbrev bytes_in_turn : List (Option ℤ)
bytes_in_turn = tabulate (λ i. Some (pos (i % 256))) 1024

deltas_in_turn : delta_deltas U8 bytes_in_turn ≡ replicate 128 (pos 0) ++ replicate 896 (pos 1)
unfolding delta_of segment row_of
deltas_in_turn = refl

bases_in_turn : map (λ k. slice_index_or (delta_bases U8 bytes_in_turn) k (pos 0)) (1 ∷ 4 ∷ 16 ∷ []) ≡ pos 64 ∷ pos 0 ∷ pos 32 ∷ []
unfolding segment
bases_in_turn = refl

-- 1, 2, 3
bases_of_three : delta_bases U64 (Some (pos 1) ∷ Some (pos 2) ∷ Some (pos 3) ∷ []) ≡ pos 1 ∷ replicate 15 (pos 3)
unfolding segment
bases_of_three = refl

deltas_of_three : delta_deltas U64 (Some (pos 1) ∷ Some (pos 2) ∷ Some (pos 3) ∷ []) ≡ tabulate (λ i. if i == 128 then pos 1 else if i == 256 then pos 1 else pos 0) 1024
unfolding delta_of segment row_of
deltas_of_three = refl

-- 42 at 1023 and nulls
abbrev one_valid : List (Option ℤ)
one_valid = replicate 1023 None ++ Some (pos 42) ∷ replicate 1024 None

bases_of_one : delta_bases U32 one_valid ≡ replicate 32 (pos 0) ++ replicate 32 (pos 42)
unfolding segment
bases_of_one = refl

deltas_of_one : map (delta_of U32 (fill_forward Carry one_valid) 0) (0 ∷ 511 ∷ 895 ∷ 1022 ∷ 1023 ∷ []) ≡ pos 0 ∷ pos 0 ∷ pos 0 ∷ pos 0 ∷ pos 42 ∷ []
unfolding delta_of segment row_of
deltas_of_one = refl

-- ---- runs
-- 5, 5, 7, null, 7
abbrev five_items : List (Option ℤ)
five_items = Some (pos 5) ∷ Some (pos 5) ∷ Some (pos 7) ∷ None ∷ Some (pos 7) ∷ []

values_of_five : values_to five_items 1 ≡ pos 5 ∷ pos 7 ∷ []
values_of_five = refl

offsets_of_five : offsets_to five_items 1 ≡ 0 ∷ []
offsets_of_five = refl

values_of_one : chunk_values (fill_forward Reset one_valid) 0 ≡ pos 0 ∷ pos 42 ∷ []
values_of_one = refl

later_values_of_one : chunk_values (fill_forward Reset one_valid) 1 ≡ pos 0 ∷ []
later_values_of_one = refl

-- starts are counted from the first offset
starts : map (chunk_start (7 ∷ 9 ∷ 12 ∷ [])) (0 ∷ 1 ∷ 2 ∷ []) ≡ 0 ∷ 2 ∷ 5 ∷ []
starts = refl

-- indices 0, null, 1 of the run values 10 and 20
items_of_runs : map (run_item (pos 10 ∷ pos 20 ∷ []) (Some (pos 0) ∷ None ∷ Some (pos 1) ∷ []) (7 ∷ [])) (0 ∷ 1 ∷ 2 ∷ []) ≡ Some (pos 10) ∷ None ∷ Some (pos 20) ∷ []
items_of_runs = refl

-- offsets that stand still, that fall, and that leave 1025 run values to a chunk
run_offsets : map (λ (c : List ℕ × ℕ). are_run_offsets c.0 c.1) ((0 ∷ 2 ∷ [], 4) ∷ (0 ∷ 0 ∷ [], 4) ∷ (2 ∷ 0 ∷ [], 4) ∷ (0 ∷ [], 1024) ∷ (0 ∷ [], 1025) ∷ ([], 0) ∷ ([], 1) ∷ []) ≡ true ∷ false ∷ false ∷ true ∷ false ∷ true ∷ false ∷ []
run_offsets = refl
