use Rattle.std.proofs.Common.{rules, SFits, ◌<◌, ◌^◌}
use Rattle.std.specs.Int.{w128}
use Rattle.fl_scan.proofs.StepLaws.{product_wrapped}
use Rattle.fl_scan.proofs.folds.total.repeated.Goals as goal

pub returns : goal.returns
returns g c =
    let fits : SFits w128 c.as_i128.result = search rules in
    let small : c.args.times < 2 ^ 64 = search rules in
    product_wrapped c.as_i128.result (g.T.Number.value c.args.item) c.args.times fits c.as_i128.ensures small
