use Rattle.std.proofs.Common.{◌-◌, ◌*◌}
use Rattle.fl_file.specs.FileLaws.{HasNoFootBehind}
use Rattle.flcol_c.proofs.feet.last_end.Given as goal

-- no foot ends at the multiples so far
abbrev pub invariant-loop-i : goal.invariant-loop-i
invariant-loop-i l = HasNoFootBehind (64 * (l.count - l.i)) l.bytes
