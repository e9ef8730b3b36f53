use Rattle.std.proofs.Common.{◌∙◌, ◌<◌, ◌^◌, ◌-◌, List, ℕ, Ok, IsTrue, length, nat_lt, ap, arith, subst, sym}
use Rattle.std.specs.List.{list_all}
use Rattle.fl_types.specs.Refusals.{Answers}
use Rattle.fl_column.specs.Columns.{Column, column_of_primitive}
use Rattle.fl_array.specs.BitPackedArrays.{tree_of_bitpacked}
use Rattle.fl_array.specs.Trees.{column}
use Rattle.fl_ops.specs.Takes.{at_positions}
use Rattle.fl_ops.proofs.PositionLaws.{all_fit_more, ranges_at, ranges_below}
use Rattle.fl_ops.proofs.takes.take_ranges_packed.Goals as goal

pub range_positions-requires : goal.range_positions-requires
range_positions-requires c =
    let long = c.len-len.ensures.items in
    let few : c.len-len.result < 2 ^ 64 = c.len-len.type_inv in
    all_fit_more (length (column (tree_of_bitpacked c.args.array.now)).items) (2 ^ 64 - 1) c.args.ranges.now (omega arith) c.requires

pub take_positions-requires : goal.take_positions-requires
take_positions-requires c =
    let len = length (column (tree_of_bitpacked c.args.array.now)).items in
    subst (λ (positions : List ℕ). IsTrue (list_all (λ i. nat_lt i len) positions)) (sym c.in_ok-positions.ensures) (ranges_below len c.args.ranges.now c.requires)

pub returns : goal.returns
returns c =
    let items = column (tree_of_bitpacked c.args.array.now) in
    subst (λ (d : Column). Answers column_of_primitive c.take_positions.result (Ok d))
    (ap (λ (positions : List ℕ). at_positions positions items) c.in_ok-positions.ensures ∙ ranges_at c.args.ranges.now items c.requires)
    c.take_positions.ensures
