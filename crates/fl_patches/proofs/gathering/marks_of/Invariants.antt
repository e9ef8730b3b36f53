use Rattle.std.proofs.Common.{◌≡◌, ℕ, ◌<◌, ◌≤◌, get_or, length, map, nat_lt, pos, false}
use Rattle.fl_types.specs.Bits.{bit_of_word}
use Rattle.fl_types.specs.Integers.{pattern_of}
use Rattle.fl_patches.specs.Exceptions.{bit_count}
use Rattle.fl_patches.proofs.gathering.marks_of.Given as goal

-- the items so far are marked
abbrev pub invariant-loop-j : goal.invariant-loop-j
invariant-loop-j g l = record {
  marks : (i : ℕ) → i < l.j → bit_of_word l.marks i ≡ nat_lt l.width (bit_count (pattern_of g.T.NativePType.PTYPE (get_or (map g.T.Number.value l.items) i (pos 0))));
  clear : (i : ℕ) → l.j ≤ i → bit_of_word l.marks i ≡ false;
  within : l.j ≤ length l.items;
}
