use Rattle.fl_column.proofs.NamedLaws.{named_fails}
use Rattle.fl_column.proofs.selection.without_nulls.items_named.Goals as goal

pub returns-in_default : goal.returns-in_default
returns-in_default g c = named_fails g.T.Number.value g.I.Number.value c.args.items.now c.args.indices.now c.loop-index.index-index c.index-item.result c.loop-index-test.true c.index-item.is c.in_default.ensures
