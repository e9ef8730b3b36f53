use Rattle.std.proofs.Common.{rules, ◌≡◌, ◌+◌, ◌*◌, ℕ, pos, get_or, map, drop, arith, ap, sym, ◌∙◌}
use Rattle.fastlanes.specs.Layout.{pattern_at}
use Rattle.fastlanes.proofs.Patterns.{pattern_at_drop, pattern_at_take}
use Rattle.fl_types.specs.Integers.{lanes_of_type, pattern_of, read_as}
use Rattle.fl_codec.proofs.DeltaLaws.{lanes_is}
use Rattle.fl_codec.proofs.DeltaSums.{block_of_sums}
use Rattle.fl_codec.proofs.delta.block_sums.sum_block.Goals as goal

pub sum_patterns-requires : goal.sum_patterns-requires
sum_patterns-requires g c =
    let lanes = lanes_is g.T.NativePType.PTYPE g.T.Physical.FastLanes.T g.T.Physical.FastLanes.LANES g.met.T.Physical.FastLanes.shape g.met.T.PhysicalPType.width_law in
    (search rules, (c.patterns_of-differences.ensures.long ∙ c.requires.deltas, c.patterns_of-first.ensures.long ∙ (c.requires.bases ∙ sym lanes)))

pub returns : goal.returns
returns g c i h =
    let value = g.T.Number.value in
    let ptype = g.T.NativePType.PTYPE in
    let pattern = g.T.Physical.FastLanes.pattern in
    let T = g.T.Physical.FastLanes.T in
    let lanes = g.T.Physical.FastLanes.LANES in
    let base = λ (k : ℕ). get_or (map value c.args.bases.now) k (pos 0) in
    let delta = λ (k : ℕ). get_or (map value c.args.deltas.now) k (pos 0) in
    let same : lanes ≡ lanes_of_type ptype = lanes_is ptype T lanes g.met.T.Physical.FastLanes.shape g.met.T.PhysicalPType.width_law in
    let low = c.args.low in
    let row = c.patterns_of-first.result.now in
    let words = c.patterns_of-differences.result.now in
    let block = c.sum_patterns.new.block in
    let within = c.requires.within in
    let rows = c.requires.bases in
    let long = c.requires.deltas in
    let whole = c.sum_patterns.ensures.whole in
    let sums = block_of_sums ptype T lanes 0 base delta (pattern_at pattern row) (pattern_at pattern words) (pattern_at pattern block) g.met.T.Physical.FastLanes.shape g.met.T.PhysicalPType.width_law
    (λ l p. (let place : l ≡ 0 * lanes + l = omega arith in c.patterns_of-first.ensures.patterns l (omega arith) ∙ ap (λ n. pattern_of ptype (base n)) place))
    (λ q p. (let place : q ≡ 1024 * 0 + q = omega arith in c.patterns_of-differences.ensures.patterns q (omega arith) ∙ ap (λ n. pattern_of ptype (delta n)) place))
    c.sum_patterns.ensures.items in
    c.write_values.ensures i (omega arith)
    ∙ (ap (read_as ptype) (pattern_at_take pattern (drop low block) _ i (omega arith) ∙ pattern_at_drop pattern block low i) ∙ sums (low + i) (omega arith))
