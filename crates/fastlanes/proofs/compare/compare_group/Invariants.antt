use Rattle.std.proofs.Common.{◌*◌}
use Rattle.fastlanes.specs.Rows.{item_of_row}
use Rattle.fastlanes.specs.Compared.{Compares}
use Rattle.fastlanes.proofs.compare.compare_group.Given as goal

abbrev pub invariant-loop-part : goal.invariant-loop-part
invariant-loop-part g l = record {
  answers : Compares g.W.FastLanes.pattern (goal.F-post g l.cmp) l.rhs (item_of_row g.W.FastLanes.T g.W.FastLanes.LANES l.width (g.S.Storage.word l.words)) l.g (16 * l.part) (g.W.FastLanes.lane l.answers);
}
