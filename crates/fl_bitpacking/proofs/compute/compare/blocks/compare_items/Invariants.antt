use Rattle.std.proofs.Common.{◌≡◌, ℕ, pos, ◌*◌, ◌<◌, IsTrue, get_or, length, map}
use Rattle.fastlanes.specs.Compared.{has_bit}
use Rattle.fl_types.specs.Integers.{fits, pattern_of}
use Rattle.fl_bitpacking.specs.RangeTests.{in_range}
use Rattle.fl_bitpacking.proofs.compute.compare.blocks.compare_items.Given as goal

-- the answers of the words so far
abbrev pub invariant-loop-k : goal.invariant-loop-k
invariant-loop-k g l =
    let W = g.T.Physical.FastLanes.T in
    let pattern = g.T.Physical.FastLanes.pattern in
    let ptype = g.T.NativePType.PTYPE in
    let zs = map g.T.Number.value l.items in
    record {
      done : (i : ℕ) → i < 64 * l.k → has_bit l.bits i ≡ in_range W (pattern l.fn.low) (pattern l.fn.span) (pattern_of ptype (get_or zs i (pos 0)));
      fit : (i : ℕ) → i < 64 * l.k → IsTrue (fits ptype (get_or zs i (pos 0)));
      whole : length l.bits ≡ 16;
    }
