-- When run values, run indices and run offsets make a column, and which run values a slice keeps.
use Rattle.std.specs.Prelude.{◌+◌, ◌-◌, ◌/◌, ◌%◌, ◌==◌, ℕ, ℤ, Bool, false, not, List, length, Option, Some, None, nat_le, nat_lt, if◌then◌else◌}
use Rattle.fl_types.specs.declared.dtype.DType.{DType}
use Rattle.fl_types.specs.declared.dtype.DType.TheVariants as dtypes
use Rattle.fl_types.specs.declared.error.FastLanesError.{FastLanesError}
use Rattle.fl_types.specs.declared.error.FastLanesError.TheVariants.{BlockOffsetsCount, BlockOffsetsType, ChildLength, ChildNullable, NotInteger, OffsetTooLarge, RangeBeyondChild, RunIndex, RunIndexType, RunOffsets}
use Rattle.fl_types.specs.Types.{is_index_type, is_integer, is_nullable}
use Rattle.fl_column.specs.Columns.{Column, numbers_of}
use Rattle.fl_codec.specs.RunColumns.{are_run_indices, are_run_offsets, chunk_end, chunk_start, is_run_index_type}
use Rattle.fl_codec.specs.Refusals.{otherwise}

-- run indices are of one of two types
abbrev pub is_run_index_dtype : DType → Bool
is_run_index_dtype (dtypes.Primitive ptype nullability) = is_run_index_type ptype
is_run_index_dtype (dtypes.Bool nullability) = false

-- why run values, this many run indices and this many run offsets of these types make no column, if they make none
abbrev pub rle_types_refusal : DType → DType → DType → ℕ → ℕ → ℕ → ℕ → Option FastLanesError
rle_types_refusal values indices offsets total chunks offset len =
    if nat_le 1024 offset then Some OffsetTooLarge
    else if not (is_integer values) then Some NotInteger
    else if is_nullable values then Some ChildNullable
    else if not (is_run_index_dtype indices) then Some RunIndexType
    else if not (is_index_type offsets) then Some BlockOffsetsType
    else if not (total % 1024 == 0) then Some ChildLength
    else if nat_lt total (offset + len) then Some RangeBeyondChild
    else if not (chunks == total / 1024) then Some BlockOffsetsCount
    else None

-- why run offsets or run indices name no run values, if they do not
abbrev pub rle_numbers_refusal : ℕ → List (Option ℤ) → List ℕ → Option FastLanesError
rle_numbers_refusal count indices offsets =
    if not (are_run_offsets offsets count) then Some RunOffsets
    else if not (are_run_indices indices offsets count) then Some RunIndex
    else None

-- why these columns make no run-length encoded column, the first reason that holds
abbrev pub rle_refusal : Column → Column → Column → ℕ → ℕ → Option FastLanesError
rle_refusal values indices offsets offset len =
    otherwise (rle_types_refusal values.dtype indices.dtype offsets.dtype (length indices.items) (length offsets.items) offset len)
    (rle_numbers_refusal (length values.items) indices.items (numbers_of offsets))

-- where the run values of the chunks from one to another start and end; no chunk, no values
abbrev pub kept_values_start : List ℕ → ℕ → ℕ → ℕ
kept_values_start offsets first last = if nat_lt first last then chunk_start offsets first else 0

abbrev pub kept_values_end : List ℕ → ℕ → ℕ → ℕ → ℕ
kept_values_end offsets count first last = if nat_lt first last then chunk_end offsets count (last - 1) else 0
