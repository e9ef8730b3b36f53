use Rattle.std.proofs.Common.{◌∙◌, arith}
use Rattle.fl_types.specs.Validities.{items_of}
use Rattle.fl_column.proofs.ItemLaws.{length-items_of}
use Rattle.fl_patches.proofs.Counted.{few_above, sum_histogram}
use Rattle.fl_patches.proofs.LeastTotals.{best_fits}
use Rattle.fl_patches.proofs.laws.histogram_counts_each.Goals as goal

pub returns-clause-once : goal.returns-clause-once
returns-clause-once c = let p = c.args.array.now in sum_histogram p.ptype (items_of p.validity p.slots) ∙ length-items_of p.validity p.slots c.validity-validity.ensures.covers

pub returns-clause-few : goal.returns-clause-few
returns-clause-few c = λ width. let p = c.args.array.now in
    let few = few_above p.ptype width (items_of p.validity p.slots) in
    let count = length-items_of p.validity p.slots c.validity-validity.ensures.covers in
    omega arith

pub returns-clause-fits : goal.returns-clause-fits
returns-clause-fits c = let p = c.args.array.now in best_fits p.ptype (items_of p.validity p.slots)
