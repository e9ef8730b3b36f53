use Rattle.std.proofs.Common.{◌≡◌, drop}
use Rattle.fl_file.proofs.FootSteps.{with_entries}
use Rattle.flcol_c.specs.Records.{entries_said}
use Rattle.flcol_c.proofs.records.entries_said.Given as goal

-- the chunks so far with those that are still said
abbrev pub invariant-loop-record : goal.invariant-loop-record
invariant-loop-record l = with_entries l.entries.items (entries_said l.ptype (drop l.record-index l.records)) ≡ entries_said l.fn.ptype l.fn.records
