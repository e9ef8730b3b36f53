use Rattle.std.proofs.Common.{◌+◌, refl, ap}
use Rattle.fl_statistics.proofs.WidthTotals.{totals_more}
use Rattle.fl_statistics.proofs.widths.add_block.Goals as goal

pub returns-clause-totals : goal.returns-clause-totals
returns-clause-totals g c = λ items block begun is were.
    totals_more g.T.NativePType.PTYPE items block c.best_of-width.result.0 c.best_of-width.result.1 c.args.totals _ begun (rw (c.PTYPE.ensures, is) at c.best_of-width.ensures.width) (rw is at c.best_of-width.ensures.exceptions) were
    (ap (λ n. c.args.totals.widths + n) c.from.ensures) refl c.are_native.ensures
