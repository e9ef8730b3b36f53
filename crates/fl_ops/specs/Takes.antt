-- Takes of bit-packed arrays, and the positions that ranges name.
use Rattle.std.specs.Prelude.{ℕ, Bool, true, false, List, None, map, slice_index_or, flat_map}
use Rattle.std.specs.List.{range_with_len}
use Rattle.fl_column.specs.Columns.{Column}
use Rattle.fl_array.specs.Trees.{BitPackedBlocked, Tree}

-- a bit-packed array whose blocks have each a width of its own
abbrev pub has_block_widths : Tree → Bool
has_block_widths (BitPackedBlocked parts boundaries) = true
has_block_widths other = false

-- the positions in ranges, each a start and a length, one range after another
abbrev pub range_positions : List (ℕ × ℕ) → List ℕ
range_positions ranges = flat_map (λ range. range_with_len range.0 range.1) ranges

-- the items at these positions
abbrev pub at_positions : List ℕ → Column → Column
at_positions positions c = record { dtype = c.dtype; items = map (λ i. slice_index_or c.items i None) positions }
