use Rattle.std.proofs.Common.{◌<◌, ap, length, arith, sym, ◌∙◌}
use Rattle.fastlanes.specs.Layout.{pattern_at}
use Rattle.fastlanes.proofs.Patterns.{pattern_at_read}
use Rattle.fl_types.specs.Integers.{read_as}
use Rattle.fl_codec.proofs.WithoutNulls.{value_filled}
use Rattle.fl_codec.proofs.block_items.convert.Goals as goal

pub loop-i-preserved : goal.loop-i-preserved
loop-i-preserved g c =
    let kept = c.loop-i.auto.values in
    let more = c.loop-i-test.true in
    let same = c.requires in
    let inside : c.loop-i.i < length c.loop-i.values = omega arith in
    let word = pattern_at_read g.T.Physical.FastLanes.pattern c.args.patterns.now c.loop-i.i c.index-patterns-i.result (omega arith) c.index-patterns-i.is in
    value_filled g.T.Number.value (λ k. read_as g.T.NativePType.PTYPE (pattern_at g.T.Physical.FastLanes.pattern c.args.patterns.now k)) c.loop-i.values c.loop-i.i c.from_physical.result inside c.loop-i.invariant
    (c.from_physical.ensures ∙ ap (read_as g.T.NativePType.PTYPE) (sym word))
