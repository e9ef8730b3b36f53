-- Operations that pick items of a column.
use Rattle.std.specs.Prelude.{◌≡◌, ℕ, Bool, true, false, Result}
use Rattle.fl_types.specs.declared.error.FastLanesError.{FastLanesError}
use Rattle.fl_types.specs.Masks.{mask_len}
use Rattle.fl_column.specs.Columns.{Column}
use Rattle.fl_column.specs.Operations.{filter_column, filter_of, ranges_column, ranges_of, take_column, take_of}
use Rattle.fl_array.specs.Trees.{FoRGlobal, Tree, column}
use Rattle.fl_ops.specs.declared.selection.Selection.{Selection}
use Rattle.fl_ops.specs.declared.selection.Selection.TheVariants.{Mask, Indices, Ranges}

-- the items that are picked
abbrev pub choice_of : Selection → Column → Column
choice_of (Indices indices) c = take_of (column indices.now) c
choice_of (Ranges ranges) c = ranges_of ranges.now c
choice_of (Mask mask) c = filter_of mask.now c

-- the items that are picked, or why there are none
abbrev pub selected_column : Selection → Column → Result Column FastLanesError
selected_column (Indices indices) c = take_column (column indices.now) c
selected_column (Ranges ranges) c = ranges_column ranges.now c
selected_column (Mask mask) c = filter_column mask.now c

-- a mask has this length
abbrev pub IsOfLength : Selection → ℕ → Type 0
IsOfLength (Indices indices) len = Unit {0}
IsOfLength (Ranges ranges) len = Unit {0}
IsOfLength (Mask mask) len = mask_len mask.now ≡ len

-- a FoR array of one reference
abbrev pub is_global_for : Tree → Bool
is_global_for (FoRGlobal encoded reference) = true
is_global_for other = false
