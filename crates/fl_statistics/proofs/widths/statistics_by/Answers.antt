use Rattle.std.proofs.Common.{refl}
use Rattle.fl_types.specs.Integers.{bits_of_type}
use Rattle.fl_statistics.proofs.WidthTotals.{statistics_from}
use Rattle.fl_statistics.proofs.widths.statistics_by.Goals as goal

pub returns : goal.returns
returns g c = λ items fit counted are.
    let t = g.T.NativePType.PTYPE in
    rw c.type_bits.ensures (statistics_from t items c.args.totals c.best_of-width.result.0 c.best_of-width.result.1 c.args.all.now c.counts_signs.result (bits_of_type t) fit counted are refl (rw c.PTYPE-2.ensures at c.counts_signs.ensures) (rw c.PTYPE.ensures at c.best_of-width.ensures.width) c.best_of-width.ensures.exceptions)
