use Rattle.std.proofs.Common.{◌≤◌}
use Rattle.flcol_engine.proofs.TextLemmas.{IsReading}
use Rattle.flcol_engine.proofs.text.number.Given as goal

-- the digits so far, whose number isn't too large
abbrev pub invariant-loop-c : goal.invariant-loop-c
invariant-loop-c l = record {
  reading : IsReading l.digits l.c-index l.value;
  small : l.value ≤ l.max;
}
