use Rattle.std.proofs.Common.{◌≡◌, ◌*◌, ◌++◌, drop, length}
use Rattle.std.specs.List.{range_with_len}
use Rattle.fl_types.specs.Bits.{kept}
use Rattle.fl_scan.specs.Indices.{positions_of}
use Rattle.fl_scan.proofs.indices.indices_of.Given as goal

-- the positions of the words that are left are still to come
abbrev pub invariant-loop-k : goal.invariant-loop-k
invariant-loop-k l = l.positions.items ++ kept (drop (64 * l.k) l.bits) (drop (64 * l.k) (range_with_len 0 (length l.bits))) ≡ positions_of l.bits
