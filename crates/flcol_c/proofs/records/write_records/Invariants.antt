use Rattle.std.proofs.Common.{◌≡◌, map, take}
use Rattle.flcol_c.specs.Records.{fields_in, fields_of}
use Rattle.flcol_c.proofs.records.write_records.Given as goal

-- the records so far
abbrev pub invariant-loop-i : goal.invariant-loop-i
invariant-loop-i l = map fields_in (take l.i l.records) ≡ map fields_of (take l.i l.entries)
