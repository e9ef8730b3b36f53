use Rattle.fl_types.specs.Values.{integer_of}
use Rattle.fl_scan.proofs.CountedColumns.{comparison_range}
use Rattle.fl_scan.proofs.totals.filter_compared.Goals as goal

pub filter_passing-requires-clause-ranged : goal.filter_passing-requires-clause-ranged
filter_passing-requires-clause-ranged g c =
    let test = c.comparison-test.result in
    comparison_range g.T.NativePType.PTYPE c.args.operator test.operator (integer_of c.args.constant) (g.T.Number.value test.constant) c.comparing-range.result c.comparing-range.ensures.test c.comparing-range.ensures.plain c.comparison-test.ensures.operator c.comparison-test.ensures.constant
