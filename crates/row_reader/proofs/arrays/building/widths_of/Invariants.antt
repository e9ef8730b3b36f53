use Rattle.std.proofs.Common.{◌≡◌, ◌<◌, ◌≤◌, ℕ, length, slice_index}
use Rattle.row_reader.proofs.arrays.building.widths_of.Given as goal

-- a width for each block so far, none above the bits
abbrev pub invariant-loop-block : goal.invariant-loop-block
invariant-loop-block l = record {
  count : length l.all.items ≡ l.block;
  narrow : (j : ℕ) → j < length l.all.items → slice_index l.all.items j ≤ l.bits;
}
