use Rattle.std.proofs.Common.{◌≡◌, ℕ, ◌*◌, ◌<◌}
use Rattle.fastlanes.specs.Layout.{word_at}
use Rattle.fastlanes.specs.Rows.{item_of_row}
use Rattle.fastlanes.specs.Compared.{is_bit_set}
use Rattle.fastlanes.proofs.compare.compare_groups.Given as goal

abbrev pub invariant-loop-g : goal.invariant-loop-g
invariant-loop-g g l = record {
  set : (r m : ℕ) → r < g.W.FastLanes.T → m < 16 * l.g → (x : _) → g.W.FastLanes.pattern x ≡ item_of_row g.W.FastLanes.T g.W.FastLanes.LANES l.width (g.S.Storage.word l.words) r m → goal.F-post g l.cmp x l.rhs (is_bit_set (word_at g.W.FastLanes.T l.bytes m) r);
}
