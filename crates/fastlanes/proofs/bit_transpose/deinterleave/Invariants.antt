use Rattle.std.proofs.Common.{◌≡◌, ℕ, ◌*◌, ◌<◌, length}
use Rattle.std.specs.Prelude.{slice_index}
use Rattle.fastlanes.specs.Deinterleaved.{deinterleaved}
use Rattle.fastlanes.proofs.bit_transpose.deinterleave.Given as goal

abbrev pub invariant-loop-k : goal.invariant-loop-k
invariant-loop-k l = record {
  moved : (n : ℕ) → n < 32 * l.k → slice_index l.bytes (deinterleaved l.size n) ≡ slice_index l.source n;
  whole : length l.bytes ≡ 128;
}
