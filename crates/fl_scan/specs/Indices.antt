-- Positions of booleans.
use Rattle.std.specs.Prelude.{ℕ, Bool, List, length}
use Rattle.std.specs.List.{range_with_len}
use Rattle.fl_types.specs.Bits.{kept}

-- the positions of the booleans that are true, in order
abbrev pub positions_of : List Bool → List ℕ
positions_of bits = kept bits (range_with_len 0 (length bits))
