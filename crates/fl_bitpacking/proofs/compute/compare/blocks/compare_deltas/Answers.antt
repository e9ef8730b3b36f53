use Rattle.std.proofs.Common.{◌≡◌, ◌<◌, ◌^◌, pos, get_or, map, rules}
use Rattle.fastlanes.specs.Compared.{IsAnswer, has_bit}
use Rattle.fl_types.specs.Integers.{pattern_of}
use Rattle.fl_codec.specs.Deltas.{block_integer}
use Rattle.fl_codec.proofs.Congruence.{pattern_small}
use Rattle.fl_bitpacking.specs.RangeTests.{in_range}
use Rattle.fl_bitpacking.proofs.compute.compare.blocks.compare_deltas.Goals as goal

pub returns-clause-bits : goal.returns-clause-bits
unfolding IsAnswer
returns-clause-bits g c i h =
    let value = g.T.Number.value in
    let ptype = g.T.NativePType.PTYPE in
    let T = g.T.Physical.FastLanes.T in
    let pattern = g.T.Physical.FastLanes.pattern in
    let z = block_integer ptype (λ k. get_or (map value c.args.bases.now) k (pos 0)) (λ k. get_or (map value c.args.deltas.now) k (pos 0)) 0 i in
    let small : pattern_of ptype z < 2 ^ T = rw g.met.T.PhysicalPType.width_law (pattern_small ptype z) in
    let found = g.met.T.Physical.FastLanes.each_number (pattern_of ptype z) small in
    let e = c.compare_sums.ensures.bits i h found.0 found.1 in
    let answer : has_bit c.compare_sums.new.bits i ≡ in_range T (pattern c.args.low) (pattern c.args.span) (pattern found.0) = search rules in
    rw found.1 at answer
