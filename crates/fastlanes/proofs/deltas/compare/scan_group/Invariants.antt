use Rattle.std.proofs.Common.{◌*◌}
use Rattle.fastlanes.specs.Layout.{pattern_at}
use Rattle.fastlanes.specs.Compared.{Scans}
use Rattle.fastlanes.proofs.deltas.compare.scan_group.Given as goal

abbrev pub invariant-loop-q : goal.invariant-loop-q
invariant-loop-q g l = record {
  scanned : Scans g.W.FastLanes.T g.W.FastLanes.pattern (goal.F-post g l.cmp) l.rhs (pattern_at g.W.FastLanes.pattern l.bases) (pattern_at g.W.FastLanes.pattern l.deltas) l.g (8 * l.q) (g.W.FastLanes.lane l.scan.0) (g.W.FastLanes.lane l.scan.1);
}
