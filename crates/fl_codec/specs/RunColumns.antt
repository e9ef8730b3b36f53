-- Columns that run values, run indices and run offsets make, and when they make one.
use Rattle.std.specs.Prelude.{◌≡◌, ◌+◌, ◌-◌, ◌*◌, ◌/◌, ◌%◌, ◌<◌, ◌≤◌, ◌==◌, ◌&&◌, ◌||◌, ℕ, ℤ, pos, Bool, not, List, length, IfSome, IsTrue, Option, Some, None, option_map, unwrap_or, unsigned_abs, slice_index, slice_index_or, nat_le, nat_lt, if◌then◌else◌}
use Rattle.std.specs.List.{list_all, range_with_len}
use Rattle.fl_types.specs.declared.dtype.PType.{PType}
use Rattle.fl_types.specs.declared.dtype.PType.TheVariants.{U8, U16}
use Rattle.fl_types.specs.declared.dtype.DType.TheVariants.{Primitive}
use Rattle.fl_types.specs.declared.error.FastLanesError.{FastLanesError}
use Rattle.fl_types.specs.declared.error.FastLanesError.TheVariants.{BlockOffsetsCount, BlockOffsetsType, ChildLength, ChildNullable, OffsetTooLarge, RangeBeyondChild, RunIndex, RunIndexType, RunOffsets}
use Rattle.fl_types.specs.Bits.{tabulate}
use Rattle.fl_types.specs.Integers.{is_unsigned, same_ptype}
use Rattle.fl_types.specs.Types.{can_be_null, is_index_type}
use Rattle.fl_types.specs.Validities.{nullability_of}
use Rattle.fl_column.specs.Columns.{Column, PrimitiveParts, column_of_primitive, numbers_of, option_all}
use Rattle.fl_codec.specs.Chunks.{chunk}
use Rattle.fl_codec.specs.Parts.{RunParts, items_of_primitive}

-- where the run values of chunk k start: its run offset, counted from the first one
abbrev pub chunk_start : List ℕ → ℕ → ℕ
chunk_start offsets k = slice_index offsets k - slice_index offsets 0

-- the integer at position p of the chunks: the run value so far behind its chunk's start as its index says, the first one under a null
abbrev pub run_integer : List ℤ → List (Option ℤ) → List ℕ → ℕ → ℤ
run_integer values indices offsets p = slice_index_or values (chunk_start offsets (p / 1024) + unsigned_abs (unwrap_or (slice_index_or indices p None) (pos 0))) (pos 0)

-- the item at position p of the chunks: null where its index is, else that integer
abbrev pub run_item : List ℤ → List (Option ℤ) → List ℕ → ℕ → Option ℤ
run_item values indices offsets p = option_map (λ index. slice_index_or values (chunk_start offsets (p / 1024) + unsigned_abs index) (pos 0)) (slice_index_or indices p None)

-- the numbers that the run offsets are
abbrev pub run_offsets_of : RunParts → List ℕ
run_offsets_of parts = numbers_of (column_of_primitive parts.offsets)

-- the column of this many items that runs show from an offset on
abbrev pub run_column : RunParts → ℕ → ℕ → Column
run_column parts offset len = record {
  dtype = Primitive parts.values.ptype (nullability_of parts.indices.validity);
  items = tabulate (λ i. run_item parts.values.slots (items_of_primitive parts.indices) (run_offsets_of parts) (offset + i)) len;
}

-- ---- what runs must be
-- where the run values of chunk k, among this many, end: at the next chunk's start, or at the end of all
abbrev pub chunk_end : List ℕ → ℕ → ℕ → ℕ
chunk_end offsets count k = if nat_lt (k + 1) (length offsets) then chunk_start offsets (k + 1) else count

-- how many run values chunk k has
abbrev pub run_count : List ℕ → ℕ → ℕ → ℕ
run_count offsets count k = chunk_end offsets count k - chunk_start offsets k

-- chunk k does not start before the first one, and has from 1 to 1024 run values
abbrev pub is_chunk_of_runs : List ℕ → ℕ → ℕ → Bool
is_chunk_of_runs offsets count k = nat_le (slice_index offsets 0) (slice_index offsets k) && (nat_lt (chunk_start offsets k) (chunk_end offsets count k) && nat_le (run_count offsets count k) 1024)

-- each chunk does, and without a chunk there is no run value
abbrev pub are_run_offsets : List ℕ → ℕ → Bool
are_run_offsets offsets count = (nat_lt 0 (length offsets) || (count == 0)) && list_all (is_chunk_of_runs offsets count) (range_with_len 0 (length offsets))

-- an index is null, or below the number of run values
abbrev pub is_run_index : ℕ → Option ℤ → Bool
is_run_index count index = option_all (λ z. nat_lt (unsigned_abs z) count) index

-- each index of each chunk is null, or below the number of the chunk's run values
abbrev pub are_run_indices : List (Option ℤ) → List ℕ → ℕ → Bool
are_run_indices indices offsets count = list_all (λ k. list_all (is_run_index (run_count offsets count k)) (chunk k indices)) (range_with_len 0 (length offsets))

-- run indices are of one of these types
abbrev pub is_run_index_type : PType → Bool
is_run_index_type ptype = same_ptype ptype U8 || same_ptype ptype U16

-- why run offsets or run indices name no run values, if they do not
abbrev pub contents_refusal : RunParts → Option FastLanesError
contents_refusal parts =
    if not (are_run_offsets (run_offsets_of parts) (length parts.values.slots)) then Some RunOffsets
    else if not (are_run_indices (items_of_primitive parts.indices) (run_offsets_of parts) (length parts.values.slots)) then Some RunIndex
    else None

-- why these parts make no column of this many items from an offset on, if they make none
abbrev pub runs_refusal : RunParts → ℕ → ℕ → Option FastLanesError
runs_refusal parts offset len =
    if nat_le 1024 offset then Some OffsetTooLarge
    else if can_be_null (nullability_of parts.values.validity) then Some ChildNullable
    else if not (is_run_index_type parts.indices.ptype) then Some RunIndexType
    else if not (is_index_type (column_of_primitive parts.offsets).dtype) then Some BlockOffsetsType
    else if not (length parts.indices.slots % 1024 == 0) then Some ChildLength
    else if nat_lt (length parts.indices.slots) (offset + len) then Some RangeBeyondChild
    else if not (length parts.offsets.slots == length parts.indices.slots / 1024) then Some BlockOffsetsCount
    else contents_refusal parts

-- chunk k has from 1 to 1024 run values, they lie among this many, and its indices are null or below their number
pub record IsChunk (count : ℕ) (indices : List (Option ℤ)) (offsets : List ℕ) (k : ℕ) : Type 0 where
  pub some : chunk_start offsets k < chunk_end offsets count k
  pub few : run_count offsets count k ≤ 1024
  pub within : chunk_end offsets count k ≤ count
  pub named : (q : ℕ) → q < 1024 → IsTrue (is_run_index (run_count offsets count k) (slice_index_or indices (1024 * k + q) None))

-- indices and offsets are unsigned, each has what chunk k needs, and the chunk is such a one
pub record IsRunChunk (count : ℕ) (indices offsets : PrimitiveParts) (k : ℕ) : Type 0 where
  pub index_type : IsTrue (is_unsigned indices.ptype)
  pub offset_type : IsTrue (is_unsigned offsets.ptype)
  pub full : 1024 * (k + 1) ≤ length indices.slots
  pub range : k < length offsets.slots
  pub chunk : IsChunk count (items_of_primitive indices) (numbers_of (column_of_primitive offsets)) k
