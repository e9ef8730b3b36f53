use Rattle.std.proofs.Common.{◌≡◌, length}
use Rattle.fl_bitpacking.specs.Taken.{AreTaken}
use Rattle.fl_bitpacking.proofs.compute.take.runs.pick_run.Given as goal

-- the items so far
abbrev pub invariant-loop-k : goal.invariant-loop-k
invariant-loop-k g l = record {
  taken : AreTaken g.T.Number.value g.T.NativePType.PTYPE l.initial.reader.bytes l.blocks l.positions l.k l.items;
  long : length l.items ≡ length l.positions;
}
