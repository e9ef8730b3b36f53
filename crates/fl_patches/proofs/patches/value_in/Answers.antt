use Rattle.std.proofs.Common.{pos, ◌∙◌}
use Rattle.fl_patches.proofs.Parts.{valued_item}
use Rattle.fl_patches.proofs.patches.value_in.Goals as goal

pub returns-clause-value : goal.returns-clause-value
returns-clause-value c = let a = c.args.values.now in c.get.ensures.item ∙ valued_item a.validity a.slots c.args.i (pos 0) c.validity-validity.ensures.covers c.requires.valued c.requires.range
