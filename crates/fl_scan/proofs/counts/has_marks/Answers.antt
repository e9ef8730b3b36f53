use Rattle.std.proofs.Common.{◌+◌}
use Rattle.fl_scan.proofs.CountedColumns.{invalid_unmarked}
use Rattle.fl_scan.proofs.counts.has_marks.Goals as goal

pub returns-in-AllInvalid : goal.returns-in-AllInvalid
returns-in-AllInvalid c = λ none i h. invalid_unmarked c.args.marks.now (c.args.from + i) c.in-AllInvalid.is
