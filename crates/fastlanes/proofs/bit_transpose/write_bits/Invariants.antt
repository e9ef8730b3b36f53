use Rattle.std.proofs.Common.{◌≡◌, ℕ, ◌+◌, ◌*◌, ◌/◌, ◌%◌, ◌<◌, ◌≤◌, length}
use Rattle.std.specs.Prelude.{slice_index}
use Rattle.fastlanes.specs.Compared.{is_bit_set}
use Rattle.fastlanes.proofs.TransposedBits.{Doubled}
use Rattle.fastlanes.proofs.bit_transpose.write_bits.Given as goal

abbrev pub invariant-loop-s : goal.invariant-loop-s
invariant-loop-s l = record {
  low : Doubled l.bytes 0 l.s l.low;
  high : Doubled l.bytes 64 l.s l.high;
  done : (j m : ℕ) → j < 16 → 16 ≤ j + 2 * l.s → m < 64 → is_bit_set (slice_index l.output j) m ≡ is_bit_set (slice_index l.bytes (64 * (j % 2) + m)) (j / 2);
  whole : length l.output ≡ 16;
}
