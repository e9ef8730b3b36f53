use Rattle.std.proofs.Common.{◌≡◌, [], true, ap, ◌∙◌}
use Rattle.std.specs.List.{list_all}
use Rattle.fl_types.specs.Integers.{fits}
use Rattle.fl_types.specs.Validities.{items_of}
use Rattle.fl_column.specs.Columns.{option_all}
use Rattle.fl_column.proofs.ListLaws.{and_first}
use Rattle.fl_statistics.specs.BitStatistics.{bit_statistics}
use Rattle.fl_statistics.specs.Differences.{less_references}
use Rattle.fl_statistics.proofs.Differences.{less_none}
use Rattle.fl_statistics.proofs.widths.statistics_typed.Goals as goal

pub returns : goal.returns
returns g c =
    let t = c.args.array.now.ptype in
    let items = items_of c.args.array.now.validity c.args.array.now.slots in
    let fit : list_all (option_all (fits t)) items ≡ true = and_first (list_all (option_all (fits t)) items) _ c.stored_integers_are_in_range.ensures.column in
    c.bit_statistics_less.ensures ∙ ap (bit_statistics t) (ap (λ z. less_references t z [] items) c.zero.ensures ∙ less_none t items fit)
