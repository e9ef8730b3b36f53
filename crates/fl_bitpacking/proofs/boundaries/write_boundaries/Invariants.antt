use Rattle.std.proofs.Common.{◌≡◌, ℕ, ◌*◌, take, vec_capacity, vec_len}
use Rattle.std.specs.List.{sum}
use Rattle.fl_types.specs.Bits.{tabulate}
use Rattle.fl_bitpacking.proofs.boundaries.write_boundaries.Given as goal

-- the boundaries so far
abbrev pub invariant-loop-width : goal.invariant-loop-width
invariant-loop-width l = record {
  next : l.start ≡ 128 * sum (take l.width-index l.widths);
  long : vec_len l.boundaries ≡ l.width-index;
  room : vec_capacity l.boundaries ≡ vec_capacity l.fn.boundaries;
  all : l.boundaries.items ≡ tabulate (λ (j : ℕ). 128 * sum (take j l.widths)) l.width-index;
}
