use Rattle.std.proofs.Common.{◌≡◌, ℕ, ◌+◌, ◌<◌, get_or, true, slice_index}
use Rattle.fl_column.specs.Numbers.{numbers}
use Rattle.fl_bitpacking.specs.Blocks.{is_block}
use Rattle.fl_bitpacking.proofs.boundary_checks.are_blocks.Given as goal

-- each two neighbours so far are those of a block
abbrev pub invariant-loop-j : goal.invariant-loop-j
invariant-loop-j l =
    let boundaries = numbers l.boundaries in
    (k : ℕ) → k + 1 < l.j → is_block l.bits l.size (slice_index boundaries 0) (get_or boundaries k 0) (get_or boundaries (k + 1) 0) ≡ true
