use Rattle.std.proofs.Common.{◌≡◌, ℕ, ◌+◌, ◌<◌, ◌≤◌, false}
use Rattle.fl_types.specs.Bits.{bit_of_word}
use Rattle.fl_types.proofs.bits.word_of.Given as goal

-- the answers so far, and no bit behind them
abbrev pub invariant-loop-j : goal.invariant-loop-j
invariant-loop-j g l = record {
  clear : (j : ℕ) → l.j ≤ j → bit_of_word l.word j ≡ false;
  bits : (j : ℕ) → j < l.j → goal.F-post g l.bit (l.start + j) (bit_of_word l.word j);
}
