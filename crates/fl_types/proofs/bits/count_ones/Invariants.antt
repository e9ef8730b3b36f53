use Rattle.std.proofs.Common.{◌≡◌, ◌*◌, ◌≤◌}
use Rattle.fl_types.specs.Bits.{first_bits, true_count}
use Rattle.fl_types.proofs.bits.count_ones.Given as goal

-- those of the words so far
abbrev pub invariant-loop-word : goal.invariant-loop-word
invariant-loop-word l = record {
  counted : l.count ≡ true_count (first_bits l.words (64 * l.word-index));
  few : l.count ≤ 64 * l.word-index;
}
