use Rattle.std.proofs.Common.{◌≡◌, ◌-◌, ◌^◌, ◌≤◌, vec_len}
use Rattle.std.specs.Io.KnownBytes.{Consumes}
use Rattle.flcol_engine.proofs.transfer.read_all.Given as goal

-- what was taken from the source is what was kept
abbrev pub invariant-loop-all : goal.invariant-loop-all
invariant-loop-all g l = record {
  taken : Consumes (g.S.Source.left l.fn.source) (g.S.Source.left l.source) l.all.items;
  mark : g.S.Source.has_failed l.source ≡ g.S.Source.has_failed l.fn.source;
  room : 1 ≤ vec_len l.chunk;
}

-- each turn adds a byte, and a vector has fewer than 2 ^ 64
abbrev pub decreases-loop-all : goal.decreases-loop-all
decreases-loop-all g l = 2 ^ 64 - vec_len l.all
