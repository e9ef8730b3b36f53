use Rattle.std.proofs.Common.{◌≡◌, ◌==◌, map, take, true}
use Rattle.std.specs.List.{list_all}
use Rattle.flcol_engine.specs.Words.{is_bit}
use Rattle.flcol_engine.proofs.operations.bits.Given as goal

-- the digits so far are bits, and are read
abbrev pub invariant-loop-digit : goal.invariant-loop-digit
invariant-loop-digit l = record {
  are_bits : list_all is_bit (take l.digit-index l.digits) ≡ true;
  read : l.bits ≡ map (λ digit. digit == 49) (take l.digit-index l.digits);
}
