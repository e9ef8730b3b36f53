use Rattle.fl_patches.proofs.LeastTotals.{chosen_fit, chosen_least}
use Rattle.fl_patches.proofs.block_widths.choose_widths.Goals as goal

pub returns-clause-fit : goal.returns-clause-fit
returns-clause-fit g c = chosen_fit _ c.widths_of.result c.args.array.now _ _ _ c.requires c.validity.ensures.value c.as_slice.ensures c.widths_of.ensures

pub returns-clause-least : goal.returns-clause-least
returns-clause-least g c = chosen_least _ c.widths_of.result c.args.array.now _ _ _ c.requires c.validity.ensures.value c.as_slice.ensures c.widths_of.ensures
