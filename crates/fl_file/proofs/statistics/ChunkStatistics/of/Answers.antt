use Rattle.std.proofs.Common.{◌≡◌, ◌≤◌, arith, length, rules, true}
use Rattle.std.specs.Prelude.{FitsSigned}
use Rattle.std.specs.Int.{w128}
use Rattle.std.specs.List.{list_all}
use Rattle.std.proofs.lemmas.Bool.{and_parts}
use Rattle.std.proofs.lemmas.Int.{to_z-of_z}
use Rattle.fl_types.specs.Integers.{fits}
use Rattle.fl_column.specs.Columns.{column_of_primitive, option_all}
use Rattle.fl_file.specs.FootLaws.{ExtremesAreHeld}
use Rattle.fl_file.specs.Statistics.{null_count_of}
use Rattle.fl_file.proofs.StatisticsLaws.{extremes_are_fit, few_nulls}
use Rattle.fl_file.proofs.statistics.ChunkStatistics.of.Goals as goal

pub returns-clause-fit : goal.returns-clause-fit
returns-clause-fit c =
    let col = column_of_primitive c.args.array.now in
    let t = c.args.array.now.ptype in
    let fit : FitsSigned w128 c.summary-extremes.result.sum = search rules in
    let held : ExtremesAreHeld c.summary-extremes.result.extremes = search rules in
    let each : list_all (option_all (fits t)) col.items ≡ true = (and_parts _ _ c.stored_integers_are_in_range.ensures.column).0 in
    let nulls : null_count_of col ≤ length col.items = few_nulls col in
    rw (to_z-of_z w128 c.summary-extremes.result.sum fit) (record {
      len = omega (arith, c.len.ensures.slots, c.prove_few.ensures);
      null_count = omega (arith, c.len.ensures.items, c.null_count.ensures);
      extremes = rw (c.len.ensures.items, c.null_count.ensures, c.summary-extremes.ensures.extremes) (extremes_are_fit t col each);
      held = held;
      sum = fit;
    })
