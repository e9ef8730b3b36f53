use Rattle.std.proofs.Common.{◌≡◌, ℕ, ◌*◌, ◌^◌, ◌<◌, ◌≤◌, length}
use Rattle.fastlanes.specs.Layout.{pattern_at, bit_value}
use Rattle.fastlanes.specs.Compared.{is_bit_set}
use Rattle.fastlanes.proofs.compare.compare_lanes.Given as goal

abbrev pub invariant-loop-j : goal.invariant-loop-j
invariant-loop-j g l = record {
  one : (k : ℕ) → k < l.j → pattern_at g.W.FastLanes.pattern l.words k ≡ bit_value (is_bit_set (pattern_at g.W.FastLanes.pattern l.words k) l.r) * 2 ^ l.r;
  set : (k : ℕ) → k < l.j → (x : _) → g.W.FastLanes.pattern x ≡ g.W.FastLanes.lane l.fn.row k → goal.F-post g l.cmp x l.rhs (is_bit_set (pattern_at g.W.FastLanes.pattern l.words k) l.r);
  rest : (k : ℕ) → l.j ≤ k → k < 16 → pattern_at g.W.FastLanes.pattern l.words k ≡ g.W.FastLanes.lane l.fn.row k;
  whole : length l.words ≡ 16;
}
