use Rattle.std.proofs.Common.{◌&&◌, int_le, rules}
use Rattle.std.specs.Prelude.{FitsSigned}
use Rattle.std.specs.Int.{w128}
use Rattle.std.proofs.lemmas.Int.{to_z-of_z}
use Rattle.fl_file.proofs.PruneLaws.{exact_inverted}
use Rattle.fl_file.proofs.pruning.prune_range.Goals as goal

pub returns-then-range : goal.returns-then-range
returns-then-range c = λ order.
    let r = c.args.range in
    let first : FitsSigned w128 r.first = search rules in
    let last : FitsSigned w128 r.last = search rules in
    let says = rw (to_z-of_z w128 r.last last) at (rw (to_z-of_z w128 r.first first) at (c.prune_from_to-says.ensures order)) in
    exact_inverted c.inverted.result r c.args.extremes.least c.args.extremes.greatest c.if-range.true (c.inverted.ensures (λ z. int_le r.first z && int_le z r.last) c.args.extremes.least c.args.extremes.greatest says)
