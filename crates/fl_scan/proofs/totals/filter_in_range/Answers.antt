use Rattle.fl_types.specs.Values.{integer_of}
use Rattle.fl_scan.proofs.CountedColumns.{between_range}
use Rattle.fl_scan.proofs.totals.filter_in_range.Goals as goal

pub filter_passing-requires-clause-ranged : goal.filter_passing-requires-clause-ranged
filter_passing-requires-clause-ranged g c =
    let test = c.range-test.result in
    between_range g.T.NativePType.PTYPE c.args.options test.options (integer_of c.args.bounds.0) (integer_of c.args.bounds.1) (g.T.Number.value test.lower) (g.T.Number.value test.upper) c.between-range.result c.between-range.ensures.test c.between-range.ensures.plain c.range-test.ensures.options
    c.range-test.ensures.lower c.range-test.ensures.upper
