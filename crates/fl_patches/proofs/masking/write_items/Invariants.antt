use Rattle.std.proofs.Common.{◌≡◌, ◌<◌, ℕ, pos, cond, get_or, length, map}
use Rattle.fl_types.specs.Bits.{bit_of_word}
use Rattle.fl_types.specs.Integers.{pattern_of}
use Rattle.fl_patches.proofs.masking.write_items.Given as goal

-- the patterns so far
abbrev pub invariant-loop-j : goal.invariant-loop-j
invariant-loop-j g l = record {
  written : (i : ℕ) → i < l.j → get_or l.group i 0 ≡ cond (bit_of_word l.word i) (pattern_of g.T.NativePType.PTYPE (get_or (map g.T.Number.value l.items) i (pos 0))) 0;
  long : length l.group ≡ length l.items;
}
