use Rattle.std.proofs.Common.{◌≡◌, ◌*◌, ◌≤◌, map, take, unsigned_abs}
use Rattle.fl_types.specs.Bits.{kept}
use Rattle.fl_file.specs.Statistics.{extremes_among, total}
use Rattle.fl_file.proofs.summary.summary_of_valid.Given as goal

-- what is known so far, and how large the sum can be
abbrev pub invariant-loop-i : goal.invariant-loop-i
invariant-loop-i g l = record {
  extremes : l.summary.extremes ≡ extremes_among (kept (take l.i l.bits) (take l.i (map g.T.Number.value l.items)));
  sum : l.summary.sum ≡ total (kept (take l.i l.bits) (take l.i (map g.T.Number.value l.items)));
  bound : unsigned_abs l.summary.sum ≤ l.i * 18446744073709551616;
}
