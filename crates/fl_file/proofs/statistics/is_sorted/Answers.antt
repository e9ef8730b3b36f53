use Rattle.std.proofs.Common.{◌∙◌}
use Rattle.fl_file.proofs.SummaryLaws.{full_items}
use Rattle.fl_file.proofs.statistics.is_sorted.Goals as goal

pub returns-in-NonNullable : goal.returns-in-NonNullable
returns-in-NonNullable c = c.slots_rise.ensures ∙ full_items c.args.array.now c.validity.result.now c.validity.ensures.value c.in-NonNullable.is
