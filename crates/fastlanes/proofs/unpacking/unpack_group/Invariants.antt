use Rattle.std.proofs.Common.{◌*◌}
use Rattle.fastlanes.specs.Layout.{place, pattern_at}
use Rattle.fastlanes.specs.Rows.{WritesRows, item_with_reference}
use Rattle.fastlanes.proofs.unpacking.unpack_group.Given as goal

abbrev pub invariant-loop-part : goal.invariant-loop-part
invariant-loop-part g l = record {
  written : WritesRows g.W.FastLanes.T g.W.FastLanes.LANES place (item_with_reference g.W.FastLanes.T g.W.FastLanes.LANES l.width (g.S.Storage.word l.words) (g.W.FastLanes.lane l.reference)) l.g 0 (16 * l.part) (pattern_at g.W.FastLanes.pattern l.initial.items) (pattern_at g.W.FastLanes.pattern l.items);
}
