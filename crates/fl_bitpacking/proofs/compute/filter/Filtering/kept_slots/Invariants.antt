use Rattle.std.proofs.Common.{◌≡◌}
use Rattle.std.specs.Option.{option_copied}
use Rattle.fl_bitpacking.specs.Filtered.{AreKept, count_before, items_before}
use Rattle.fl_bitpacking.specs.Readings.{AreFewReads}
use Rattle.fl_bitpacking.proofs.compute.filter.Filtering.kept_slots.Given as goal

-- the items of the blocks so far, and the patches before the next one
abbrev pub invariant-loop-j : goal.invariant-loop-j
invariant-loop-j g l = record {
  taken : AreKept g.T.Number.value g.T.NativePType.PTYPE l.initial.reader.bytes l.self (items_before l.self l.j) l.taken.items;
  before : l.before ≡ count_before (items_before l.self l.j) (option_copied l.self.patches);
  read : AreFewReads l.j l.initial.reader l.reader;
}
