use Rattle.std.proofs.Common.{rules}
use Rattle.std.specs.Prelude.{FitsSigned}
use Rattle.std.specs.Int.{w128}
use Rattle.fl_file.specs.Pruning.{is_in_range, passes}
use Rattle.fl_file.proofs.PruneLaws.{exact_of_test}
use Rattle.fl_file.proofs.pruning.prune_extremes.Goals as goal

pub returns : goal.returns
returns c =
    let f : FitsSigned w128 c.args.extremes.least = search rules in
    let g : FitsSigned w128 c.args.extremes.greatest = search rules in
    λ order. exact_of_test c.prune_range.result (is_in_range c.range.result) (passes c.args.test.now) c.args.extremes.least c.args.extremes.greatest f g c.range.ensures (c.prune_range.ensures order)
