use Rattle.std.proofs.Common.{◌≡◌}
use Rattle.fl_column.specs.Bitmaps.{bits_in}
use Rattle.fl_column.proofs.bitmaps.bits_of.Given as goal

-- the bits so far
abbrev pub invariant-loop-i : goal.invariant-loop-i
invariant-loop-i l = l.bits ≡ bits_in l.bitmap l.i
