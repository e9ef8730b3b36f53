-- A width for each block where all blocks have one width.
use Rattle.std.specs.Prelude.{ℕ, List, replicate}
use Rattle.fl_bitpacking.specs.Columns.{BitPackedParts, block_count}

-- the width once for each block
abbrev pub width_per_block : BitPackedParts → ℕ → List ℕ
width_per_block parts width = replicate (block_count parts) width
