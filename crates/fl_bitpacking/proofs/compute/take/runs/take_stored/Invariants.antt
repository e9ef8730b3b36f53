use Rattle.std.proofs.Common.{◌≡◌, ◌+◌, ◌-◌, ◌*◌, ◌≤◌, length}
use Rattle.fl_bitpacking.specs.Taken.{AreTaken}
use Rattle.fl_bitpacking.proofs.compute.take.runs.take_stored.Given as goal

-- the items so far; a block was unpacked for seventeen of them at least
abbrev pub invariant-loop-from : goal.invariant-loop-from
invariant-loop-from g l = record {
  taken : AreTaken g.T.Number.value g.T.NativePType.PTYPE l.initial.reader.bytes l.blocks l.positions l.from l.items.items;
  long : length l.items.items ≡ length l.positions;
  within : l.from ≤ length l.positions;
  bytes : l.reader.bytes ≡ l.initial.reader.bytes;
  blocks : 17 * l.reader.blocks ≤ 17 * l.initial.reader.blocks + l.from;
  words : l.reader.words ≤ l.initial.reader.words + 2 * l.from;
}

abbrev pub decreases-loop-from : goal.decreases-loop-from
decreases-loop-from g l = length l.positions - l.from
