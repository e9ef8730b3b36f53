use Rattle.std.proofs.Common.{◌<◌, ap, get_or, length, map, pos, unsigned_abs, arith, sym, ◌∙◌}
use Rattle.fl_column.proofs.GatherLaws.{value_read}
use Rattle.fl_codec.proofs.WithoutNulls.{value_filled}
use Rattle.fl_codec.proofs.rle.decoding.write_named.Goals as goal

-- no index is behind the values
pub returns-then-index-values : goal.returns-then-index-values
returns-then-index-values g c =
    let kept = c.loop-i.auto.items in
    let more = c.loop-i-test.true in
    let long = c.requires.long in
    let index = value_read g.I.Number.value c.args.indices.now c.loop-i.i c.index-indices-i.result c.index-indices-i.is (omega arith) in
    let named = rw index at (c.requires.named c.loop-i.i (omega arith)) in
    let is = c.unsigned_abs-index.ensures in
    let behind = c.if-index-values.true in
    absurd (omega arith)

pub loop-i-preserved : goal.loop-i-preserved
loop-i-preserved g c =
    let value = g.T.Number.value in
    let kept = c.loop-i.auto.items in
    let more = c.loop-i-test.true in
    let long = c.requires.long in
    let inside : c.loop-i.i < length c.loop-i.items = omega arith in
    let index = value_read g.I.Number.value c.args.indices.now c.loop-i.i c.index-indices-i.result c.index-indices-i.is (omega arith) in
    let named = rw index at (c.requires.named c.loop-i.i (omega arith)) in
    let is = c.unsigned_abs-index.ensures in
    let read = value_read value c.args.values.now c.unsigned_abs-index.result c.index-values-index.result c.index-values-index.is (omega arith) in
    value_filled value (λ j. get_or (map value c.args.values.now) (unsigned_abs (get_or (map g.I.Number.value c.args.indices.now) j (pos 0))) (pos 0)) c.loop-i.items c.loop-i.i c.index-values-index.result inside c.loop-i.invariant
    (sym read ∙ ap (λ m. get_or (map value c.args.values.now) m (pos 0)) (is ∙ ap unsigned_abs (sym index)))
