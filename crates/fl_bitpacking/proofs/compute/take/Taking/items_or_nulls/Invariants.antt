use Rattle.std.proofs.Common.{◌≡◌, map, take}
use Rattle.fl_bitpacking.specs.Blocks.{blocks_of}
use Rattle.fl_bitpacking.specs.Columns.{packed_item}
use Rattle.fl_bitpacking.specs.Parts.{parts_of}
use Rattle.fl_bitpacking.proofs.compute.take.Taking.items_or_nulls.Given as goal

-- the items so far
abbrev pub invariant-loop-k : goal.invariant-loop-k
invariant-loop-k g l = l.taken ≡ map (packed_item (parts_of l.self.column) (blocks_of l.self.widths)) (take l.k l.self.positions.now)
