use Rattle.std.proofs.Common.{arith}
use Rattle.fl_codec.specs.FoRColumns.{turned}
use Rattle.fl_codec.proofs.WithoutNulls.{least_begun, least_found, least_next}
use Rattle.fl_codec.proofs.for_.without_nulls.least_of.Goals as goal

pub loop-i-init : goal.loop-i-init
loop-i-init g c =
    let value = g.T.Number.value in
    let some = c.if-items-eq0.false in
    rw c.minus-least.ensures (least_begun (λ x. turned g.T.NativePType.PTYPE (value c.args.origin) (value x)) c.args.items.now c.index-items-0.result (omega arith) c.index-items-0.is)

pub loop-i-preserved : goal.loop-i-preserved
loop-i-preserved g c =
    let value = g.T.Number.value in
    let lesser = rw c.minus-item.ensures at c.less-least.ensures in
    least_next (λ x. turned g.T.NativePType.PTYPE (value c.args.origin) (value x)) c.args.items.now (value c.loop-i.least) (value c.less-least.result) c.index-items-i.result c.loop-i.i c.loop-i-test.true c.index-items-i.is lesser c.loop-i.invariant

pub returns : goal.returns
returns g c =
    let value = g.T.Number.value in
    let some = c.if-items-eq0.false in
    let reached = c.loop-i.auto.i-end (omega arith) in
    let over = c.loop-i-test.false in
    least_found (λ x. turned g.T.NativePType.PTYPE (value c.args.origin) (value x)) c.args.items.now (value c.loop-i.least) c.loop-i.i (omega arith) c.loop-i.invariant
