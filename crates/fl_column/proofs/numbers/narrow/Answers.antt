use Rattle.std.proofs.Common.{◌∙◌, get_or, pos}
use Rattle.fl_column.proofs.NumberLaws.{narrowed_more, whole_at}
use Rattle.fl_column.proofs.numbers.narrow.Goals as goal

pub loop-number-preserved : goal.loop-number-preserved
loop-number-preserved g c =
    let n = pos (get_or c.args.numbers.now c.loop-number.number-index 0) in
    narrowed_more g.T.Number.value g.T.Number.wrap c.args.numbers.now c.loop-number.narrowed.items c.push.new.self.items c.as_.result c.loop-number.number-index c.loop-number-test.true c.in_ok-push.ensures.items c.loop-number.invariant
    (c.as_.ensures.value tt g.met.T.Integral.exact_law)
    (g.met.T.NativePType.wraps_law n ∙ whole_at g.T.NativePType.PTYPE c.args.numbers.now c.loop-number.number-index c.requires c.loop-number-test.true)
