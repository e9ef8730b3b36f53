use Rattle.std.proofs.Common.{map, refl, rules, SFits}
use Rattle.std.specs.Int.{w128}
use Rattle.fl_scan.specs.Totals.{total}
use Rattle.fl_scan.proofs.StepLaws.{sum_of_wrapped}
use Rattle.fl_scan.proofs.folds.total.TotalFold.add_all.Goals as goal

pub returns-clause-gathered : goal.returns-clause-gathered
returns-clause-gathered g c =
    let before : SFits w128 c.args.self.now.total = search rules in
    let fits : SFits w128 c.total_of.result = search rules in
    sum_of_wrapped c.args.self.now.total c.total_of.result c.args.self.now.total (total (map g.T.Number.value c.args.items.now)) before fits refl c.total_of.ensures
