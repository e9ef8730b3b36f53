use Rattle.std.proofs.Common.{rules, arith, inl, inr}
use Rattle.std.specs.Prelude.{FitsSigned}
use Rattle.std.specs.Int.{w128}
use Rattle.std.proofs.lemmas.Int.{ints, clamps}
use Rattle.fl_file.proofs.PruneLaws.{none_within, some_within}
use Rattle.fl_file.proofs.pruning.prune_from_to.Goals.{else-first-extremes-via-then-first-extremes+else-extremes-last, else-first-extremes-via-else-first-extremes}
use Rattle.fl_file.proofs.pruning.prune_from_to.Goals as goal

pub returns-then-high-low : goal.returns-then-high-low
returns-then-high-low c =
    let f : FitsSigned w128 c.args.extremes.least = search rules in
    let g : FitsSigned w128 c.args.extremes.greatest = search rules in
    λ order. none_within c.args.first c.args.last c.args.extremes.least c.args.extremes.greatest c.max-low.result c.min-high.result (omega (arith, ints, clamps)) (omega (arith, ints, clamps)) (omega (arith, ints))

pub returns-else-first-extremes : goal.returns-else-first-extremes
returns-else-first-extremes c =
    let f : FitsSigned w128 c.args.extremes.least = search rules in
    let g : FitsSigned w128 c.args.extremes.greatest = search rules in
    λ order. some_within c.args.first c.args.last c.args.extremes.least c.args.extremes.greatest c.max-low.result c.min-high.result (omega (arith, ints, clamps)) (omega (arith, ints, clamps)) (omega (arith, ints))
    (elim c.else-first-extremes.branch [
      | else-first-extremes-via-then-first-extremes+else-extremes-last w ↦ inr (omega (arith, ints))
      | else-first-extremes-via-else-first-extremes w ↦ inl (omega (arith, ints))
    ])
    order
