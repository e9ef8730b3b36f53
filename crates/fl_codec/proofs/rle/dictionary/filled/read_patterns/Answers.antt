use Rattle.std.proofs.Common.{◌<◌, ap, length, length-set, arith, sym, ◌∙◌}
use Rattle.fastlanes.specs.Layout.{pattern_at}
use Rattle.fastlanes.proofs.Patterns.{pattern_at_read}
use Rattle.fl_types.specs.Integers.{read_as}
use Rattle.fl_codec.proofs.WithoutNulls.{value_filled}
use Rattle.fl_codec.proofs.rle.dictionary.filled.read_patterns.Goals as goal

pub loop-i-preserved : goal.loop-i-preserved
loop-i-preserved g c =
    let more = c.loop-i-test.true in
    let whole = c.loop-i.invariant.whole in
    let long = c.type_inv.block in
    let inside : c.loop-i.i < length c.loop-i.items = omega arith in
    let word = pattern_at_read g.T.Physical.FastLanes.pattern c.args.block.now c.loop-i.i c.index-block-i.result (omega arith) c.index-block-i.is in
    record {
      done = value_filled g.T.Number.value (λ k. read_as g.T.NativePType.PTYPE (pattern_at g.T.Physical.FastLanes.pattern c.args.block.now k)) c.loop-i.items c.loop-i.i c.from_physical.result inside c.loop-i.invariant.done (c.from_physical.ensures ∙ (ap (λ w. read_as g.T.NativePType.PTYPE (g.T.Physical.FastLanes.pattern w)) (sym c.index-block-i.is) ∙ ap (read_as g.T.NativePType.PTYPE) (sym word)));
      whole = rw length-set whole;
    }
