use Rattle.std.proofs.Common.{◌∙◌}
use Rattle.fl_column.proofs.NumberLaws.{number_read}
use Rattle.fl_column.proofs.numbers.number_at.Goals as goal

pub returns : goal.returns
returns g c = c.unsigned_abs.ensures ∙ number_read g.I.Number.value c.args.items.now c.args.i c.index-items-i.result c.requires c.index-items-i.is
