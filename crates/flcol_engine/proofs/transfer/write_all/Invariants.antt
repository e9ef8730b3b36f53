use Rattle.std.proofs.Common.{◌≡◌, ◌-◌, ◌≤◌, length, take}
use Rattle.std.specs.Io.KnownBytes.{Appends}
use Rattle.flcol_engine.proofs.transfer.write_all.Given as goal

-- the sink has the bytes up to here
abbrev pub invariant-loop-at : goal.invariant-loop-at
invariant-loop-at g l = record {
  added : Appends (g.K.Sink.written l.fn.sink) (g.K.Sink.written l.sink) (take l.at l.bytes);
  mark : g.K.Sink.has_failed l.sink ≡ g.K.Sink.has_failed l.fn.sink;
  within : l.at ≤ length l.bytes;
}

abbrev pub decreases-loop-at : goal.decreases-loop-at
decreases-loop-at g l = length l.bytes - l.at
