use Rattle.std.proofs.Common.{◌≡◌, ℕ, ◌*◌, ◌<◌, length}
use Rattle.fastlanes.specs.Layout.{pattern_at}
use Rattle.fastlanes.proofs.packing.copy_items.Given as goal

abbrev pub invariant-loop-m : goal.invariant-loop-m
invariant-loop-m g l = record {
  done : (i : ℕ) → i < 16 * l.m → g.S.Storage.word l.packed i ≡ pattern_at g.W.FastLanes.pattern l.items i;
  whole : g.S.Storage.count (length l.packed) ≡ 1024;
}
