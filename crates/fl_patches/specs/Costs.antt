-- What a width costs, and the widths of least cost.
use Rattle.std.specs.Prelude.{◌≡◌, ◌≤◌, IsTrue, ◌+◌, ◌-◌, ◌*◌, ◌/◌, ℕ, ℤ, Bool, List, ◌++◌, length, drop, replicate, Option, None, Result, Ok, Err, unwrap_or, nat_le, nat_lt, find, sum, sum_by, slice_index, if◌then◌else◌}
use Rattle.std.specs.List.{list_all, list_any, range_with_len}
use Rattle.std.specs.Int.{div_ceil}
use Rattle.fl_types.specs.declared.error.FastLanesError.{FastLanesError}
use Rattle.fl_types.specs.declared.error.FastLanesError.TheVariants.{NegativeValue, TooManyWidths}
use Rattle.fl_types.specs.declared.dtype.PType.{PType}
use Rattle.fl_types.specs.Bits.{between, tabulate}
use Rattle.fl_types.specs.Integers.{bits_of_type}
use Rattle.fl_types.specs.Validities.{items_of}
use Rattle.fl_column.specs.Columns.{PrimitiveParts}
use Rattle.fl_column.specs.Chunks.{chunk_count}
use Rattle.fl_patches.specs.Exceptions.{exception_count, histogram_of, is_negative, width_of_block}

-- ---- one width
-- the bytes of an exception: those of its value, and 4
abbrev pub exception_bytes : PType → ℕ
exception_bytes ptype = bits_of_type ptype / 8 + 4

-- how many items of a histogram have more bits than a width
abbrev pub count_above : ℕ → List ℕ → ℕ
count_above width histogram = sum (drop (width + 1) histogram)

-- the bytes of a histogram's items at a width, packed and as exceptions
unfoldable pub cost_of : PType → List ℕ → ℕ → ℕ
cost_of ptype histogram width = div_ceil (width * sum histogram) 8 + exception_bytes ptype * count_above width histogram

-- no width of the histogram costs less
abbrev pub costs_least : PType → List ℕ → ℕ → Bool
costs_least ptype histogram width = list_all (λ other. nat_le (cost_of ptype histogram width) (cost_of ptype histogram other)) (range_with_len 0 (length histogram))

-- the smallest width of least cost, 0 of a histogram without entries
unfoldable pub best_width : PType → List ℕ → ℕ
best_width ptype histogram = unwrap_or (find (costs_least ptype histogram) (range_with_len 0 (length histogram))) 0

-- the best width, or that there are too many to choose from
abbrev pub choose_width : PType → List ℕ → Result ℕ FastLanesError
choose_width ptype histogram = if nat_lt 255 (length histogram) then Err TooManyWidths else Ok (best_width ptype histogram)

-- ---- a width for each block
-- block j of 1024 items; behind the last item stand nulls, which have no bits
abbrev pub padded_block : List (Option ℤ) → ℕ → List (Option ℤ)
padded_block items j =
    let block : List (Option ℤ) = between (1024 * j) (1024 * (j + 1)) items in
    block ++ replicate (1024 - length block) None

-- the histogram of block j
unfoldable pub block_histogram : PType → List (Option ℤ) → ℕ → List ℕ
block_histogram ptype items j = histogram_of ptype (padded_block items j)

-- the best widths of the first blocks
unfoldable pub first_widths : PType → List (Option ℤ) → ℕ → List ℕ
first_widths ptype items blocks = tabulate (λ j. best_width ptype (block_histogram ptype items j)) blocks

-- the best width of each block
abbrev pub best_widths : PType → List (Option ℤ) → List ℕ
best_widths ptype items = first_widths ptype items (chunk_count (length items))

-- what the blocks cost together at these widths
unfoldable pub cost_of_widths : PType → List (Option ℤ) → List ℕ → ℕ
cost_of_widths ptype items widths = sum_by (λ j. cost_of ptype (block_histogram ptype items j) (slice_index widths j)) (range_with_len 0 (chunk_count (length items)))

-- widths, and how many exceptions they leave
pub record ChosenWidths : Type 0 where
  pub widths : List ℕ
  pub exceptions : ℕ

-- the best width of each block and their exceptions
abbrev pub chosen_widths : PType → List (Option ℤ) → ChosenWidths
chosen_widths ptype items = record { widths = best_widths ptype items; exceptions = exception_count ptype (width_of_block (best_widths ptype items)) items }

-- the same, or that a negative item has none
abbrev pub choose_widths : PrimitiveParts → Result ChosenWidths FastLanesError
choose_widths p =
    if list_any is_negative (items_of p.validity p.slots) then Err NegativeValue
    else Ok (chosen_widths p.ptype (items_of p.validity p.slots))

-- no other list of as many widths of the type costs less
abbrev pub CostLeast : PType → List (Option ℤ) → List ℕ → Type 0
CostLeast ptype items widths = (others : List ℕ) → length others ≡ length widths → IsTrue (list_all (λ width. nat_le width (bits_of_type ptype)) others) → cost_of_widths ptype items widths ≤ cost_of_widths ptype items others
