use Rattle.std.proofs.Common.{◌≡◌, ℕ, ◌+◌, ◌<◌, false, length, true}
use Rattle.fl_types.specs.Bits.{bit_of_word}
use Rattle.fl_bitpacking.specs.Blocks.{block_item, value_at}
use Rattle.fl_bitpacking.specs.Readings.{AreFewReads, bytes_at}
use Rattle.fl_bitpacking.proofs.compute.filter.read_set.Given as goal

-- the items of the bits that are no longer set are read
abbrev pub invariant-loop-rest : goal.invariant-loop-rest
invariant-loop-rest g l = record {
  long : length l.items ≡ length l.initial.items;
  set : (j : ℕ) → bit_of_word l.rest j ≡ true → j < length l.initial.items;
  done : (j : ℕ) → bit_of_word l.word j ≡ true → bit_of_word l.rest j ≡ false → value_at g.T.Number.value l.items j ≡ block_item g.T.NativePType.PTYPE l.extent.width (bytes_at l.extent l.initial.reader.bytes) (l.first + j);
  read : AreFewReads 0 l.initial.reader l.reader;
}

abbrev pub decreases-loop-rest : goal.decreases-loop-rest
decreases-loop-rest g l = l.rest
