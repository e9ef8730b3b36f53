-- said here, where the search finds it too: a body that breaks it is refused at once
use Rattle.std.proofs.Common.{refl}
use Rattle.fl_column.proofs.GatherLaws.{value_read}
use Rattle.fl_column.proofs.compute.between.lies_between_at.Goals as goal

pub returns : goal.returns
returns g c = rw (value_read g.T.Number.value c.args.items.now c.args.i c.index-items-i.result c.index-items-i.is c.requires, c.is_before.ensures, c.is_before-2.ensures) refl
