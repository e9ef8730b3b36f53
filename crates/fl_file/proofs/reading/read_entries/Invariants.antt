use Rattle.std.proofs.Common.{◌≡◌, ◌-◌, ◌*◌, ◌≤◌, length}
use Rattle.fl_file.specs.FootReading.{entries_at}
use Rattle.fl_file.proofs.FootSteps.{with_entries}
use Rattle.fl_file.proofs.reading.read_entries.Given as goal

-- the entries so far with those that are still read, and the bytes of these
abbrev pub invariant-loop : goal.invariant-loop
invariant-loop l = record {
  read : with_entries l.entries.items (entries_at l.ptype (l.count - l.counter) l.rest) ≡ entries_at l.fn.ptype l.fn.count l.fn.bytes;
  left : 96 * (l.count - l.counter) ≤ length l.rest;
}
