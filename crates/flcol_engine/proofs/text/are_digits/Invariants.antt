use Rattle.std.proofs.Common.{◌≡◌, drop}
use Rattle.std.specs.Str.{all_ascii_digits}
use Rattle.flcol_engine.proofs.text.are_digits.Given as goal

-- digits so far
abbrev pub invariant-loop-c : goal.invariant-loop-c
invariant-loop-c l = all_ascii_digits (drop l.c-index l.text) ≡ all_ascii_digits l.text
