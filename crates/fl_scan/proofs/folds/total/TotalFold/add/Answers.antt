use Rattle.std.proofs.Common.{rules, SFits}
use Rattle.std.specs.Int.{w128}
use Rattle.fl_scan.proofs.StepLaws.{sum_and_one}
use Rattle.fl_scan.proofs.folds.total.TotalFold.add.Goals as goal

pub returns-clause-gathered : goal.returns-clause-gathered
returns-clause-gathered g c =
    let before : SFits w128 c.args.self.now.total = search rules in
    let fits : SFits w128 c.as_i128.result = search rules in
    sum_and_one c.args.self.now.total c.as_i128.result (g.T.Number.value c.args.item) before fits c.as_i128.ensures
