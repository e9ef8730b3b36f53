use Rattle.std.proofs.Common.{◌∙◌, sym, rules}
use Rattle.std.specs.Prelude.{FitsSigned}
use Rattle.std.specs.Int.{w128}
use Rattle.fl_types.specs.Integers.{fits}
use Rattle.fl_array.specs.Trees.{column}
use Rattle.fl_file.specs.Pruning.{is_in_range, passes}
use Rattle.fl_scan.proofs.SearchLaws.{fits_held, integers_held}
use Rattle.flcol_file.proofs.PassingLaws.{narrow, passing_answers, same_counts}
use Rattle.flcol_file.proofs.passing.count_passing.Goals as goal

pub returns : goal.returns
returns c =
    let col = column c.args.array.now in
    let typed = sym c.dtype.ensures ∙ c.in-Primitive.is in
    let least = c.bounds_of-bounds.result.0 in
    let greatest = c.bounds_of-bounds.result.1 in
    let l : FitsSigned w128 least = search rules in
    let h : FitsSigned w128 greatest = search rules in
    let fit = fits_held col c.in-Primitive.ptype c.in-Primitive.field-1 typed c.items_are_in_range.ensures in
    let same = same_counts (fits c.in-Primitive.ptype) (is_in_range c.range.result) (passes c.args.test.now) col.items fit (λ z hz. sym (c.range.ensures z (narrow c.in-Primitive.ptype least greatest z l h c.bounds_of-bounds.ensures hz))) in
    passing_answers col _ _ c.count_in_range.result (integers_held col.dtype c.in-Primitive.ptype c.in-Primitive.field-1 typed) same c.count_in_range.ensures
