-- What is wrong with patches as far as it shows before they are decoded.
use Rattle.std.specs.Prelude.{◌==◌, ◌&&◌, ℕ, Bool, not, length, nat_lt, take, Option, Some, None, if◌then◌else◌}
use Rattle.fl_types.specs.declared.error.FastLanesError.{FastLanesError}
use Rattle.fl_types.specs.declared.error.FastLanesError.TheVariants.{NotInteger, PatchContent, PatchLength, PatchType}
use Rattle.fl_types.specs.Types.{is_index_type, is_integer}
use Rattle.fl_column.specs.Chunks.{chunk_count}
use Rattle.fl_column.specs.Columns.{Column, numbers_of, option_all}
use Rattle.fl_patches.specs.PatchMaps.{is_rising}

-- indices, values and chunk offsets are integers
abbrev pub are_integers : Column → Column → Option Column → Bool
are_integers indices values offsets = is_integer indices.dtype && (is_integer values.dtype && option_all (λ c. is_integer c.dtype) offsets)

-- indices and chunk offsets are of unsigned types and cannot be null
abbrev pub have_index_types : Column → Option Column → Bool
have_index_types indices offsets = is_index_type indices.dtype && option_all (λ c. is_index_type c.dtype) offsets

-- there is a patch, a value for each index, and a chunk offset for each chunk where there are chunk offsets
abbrev pub have_patch_lengths : ℕ → Column → Column → Option Column → Bool
have_patch_lengths len indices values offsets =
    (length indices.items == length values.items) && (nat_lt 0 (length indices.items) && option_all (λ c. length c.items == chunk_count len) offsets)

-- why columns are no patches of so many items, by their types, their lengths and the first two indices, if it shows there
abbrev pub early_refusal : ℕ → Column → Column → Option Column → Option FastLanesError
early_refusal len indices values offsets =
    if not (are_integers indices values offsets) then Some NotInteger
    else if not (have_index_types indices offsets) then Some PatchType
    else if not (have_patch_lengths len indices values offsets) then Some PatchLength
    else if not (is_rising (take 2 (numbers_of indices))) then Some PatchContent
    else None
