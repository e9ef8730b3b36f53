use Rattle.std.proofs.Common.{◌≡◌, ◌*◌, ◌<◌, ◌^◌, take}
use Rattle.std.specs.List.{sum}
use Rattle.fl_bitpacking.proofs.boundaries.packed_size.Given as goal

-- the bytes of the blocks so far
abbrev pub invariant-loop-width : goal.invariant-loop-width
invariant-loop-width l = record {
  sum_is : l.size ≡ 128 * sum (take l.width-index l.widths);
  small : l.size < 2 ^ 64;
}
