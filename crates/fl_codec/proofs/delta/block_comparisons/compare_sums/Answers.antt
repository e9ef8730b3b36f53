use Rattle.std.proofs.Common.{◌≡◌, ◌+◌, ◌*◌, ℕ, pos, get_or, map, arith, ap, refl, sym, ◌∙◌}
use Rattle.fastlanes.specs.Compared.{IsAnswer}
use Rattle.fastlanes.specs.Delta.{delta_item}
use Rattle.fastlanes.specs.Layout.{pattern_at}
use Rattle.fl_types.specs.Integers.{lanes_of_type, pattern_of}
use Rattle.fl_types.proofs.Patterns.{pattern_read}
use Rattle.fl_codec.proofs.DeltaLaws.{lanes_is}
use Rattle.fl_codec.proofs.DeltaSums.{block_of_sums}
use Rattle.fl_codec.proofs.SummedPatterns.{sum_small}
use Rattle.fl_codec.proofs.delta.block_comparisons.compare_sums.Goals as goal

pub compare_patterns-requires : goal.compare_patterns-requires
compare_patterns-requires g c =
    let lanes = lanes_is g.T.NativePType.PTYPE g.T.Physical.FastLanes.T g.T.Physical.FastLanes.LANES g.met.T.Physical.FastLanes.shape g.met.T.PhysicalPType.width_law in
    record {
      deltas = c.patterns_of-differences.ensures.long ∙ c.requires.deltas;
      bases = c.patterns_of-first.ensures.long ∙ (c.requires.bases ∙ sym lanes);
      callable = c.requires.callable;
    }

pub returns-clause-bits : goal.returns-clause-bits
unfolding IsAnswer
returns-clause-bits g c i h x e =
    let value = g.T.Number.value in
    let ptype = g.T.NativePType.PTYPE in
    let pattern = g.T.Physical.FastLanes.pattern in
    let T = g.T.Physical.FastLanes.T in
    let lanes = g.T.Physical.FastLanes.LANES in
    let base = λ (k : ℕ). get_or (map value c.args.bases.now) k (pos 0) in
    let delta = λ (k : ℕ). get_or (map value c.args.deltas.now) k (pos 0) in
    let same : lanes ≡ lanes_of_type ptype = lanes_is ptype T lanes g.met.T.Physical.FastLanes.shape g.met.T.PhysicalPType.width_law in
    let rows = c.requires.bases in
    let long = c.requires.deltas in
    let row = pattern_at pattern c.patterns_of-first.result.now in
    let word = pattern_at pattern c.patterns_of-differences.result.now in
    let item = delta_item T row word in
    let sums = block_of_sums ptype T lanes 0 base delta row word item g.met.T.Physical.FastLanes.shape g.met.T.PhysicalPType.width_law
    (λ l p. (let place : l ≡ 0 * lanes + l = omega arith in c.patterns_of-first.ensures.patterns l (omega arith) ∙ ap (λ n. pattern_of ptype (base n)) place))
    (λ q p. (let place : q ≡ 1024 * 0 + q = omega arith in c.patterns_of-differences.ensures.patterns q (omega arith) ∙ ap (λ n. pattern_of ptype (delta n)) place))
    (λ q p. refl) in
    let small = sum_small ptype T row word i g.met.T.PhysicalPType.width_law in
    let is = sym (pattern_read ptype (item i) small) ∙ ap (pattern_of ptype) (sums i h) in
    c.compare_patterns.ensures.bits i h x (e ∙ sym is)
