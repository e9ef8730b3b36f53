use Rattle.std.proofs.Common.{◌≡◌, ℕ, ◌*◌, vec_capacity, vec_len}
use Rattle.fl_types.specs.Bits.{tabulate}
use Rattle.fl_bitpacking.proofs.boundaries.write_multiples.Given as goal

-- the multiples so far
abbrev pub invariant-loop-j : goal.invariant-loop-j
invariant-loop-j l = record {
  long : vec_len l.numbers ≡ l.j;
  room : vec_capacity l.numbers ≡ vec_capacity l.fn.numbers;
  all : l.numbers.items ≡ tabulate (λ (j : ℕ). l.step * j) l.j;
}
