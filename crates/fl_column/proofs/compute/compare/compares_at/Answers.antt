use Rattle.std.proofs.Common.{◌∙◌, ap, not}
use Rattle.fl_column.proofs.GatherLaws.{value_read}
use Rattle.fl_column.proofs.QueryLaws.{not_less}
use Rattle.fl_column.proofs.compute.compare.compares_at.Goals as goal

pub returns-in-Eq : goal.returns-in-Eq
returns-in-Eq g c = rw (c.in-Eq.is, value_read g.T.Number.value c.args.items.now c.args.i c.index-items-i.result c.index-items-i.is c.requires) c.is_equal.ensures

pub returns-in-NotEq : goal.returns-in-NotEq
returns-in-NotEq g c = rw (c.in-NotEq.is, value_read g.T.Number.value c.args.items.now c.args.i c.index-items-i.result c.index-items-i.is c.requires) (ap not c.is_equal-in-NotEq.ensures)

pub returns-in-Gt : goal.returns-in-Gt
returns-in-Gt g c = rw (c.in-Gt.is, value_read g.T.Number.value c.args.items.now c.args.i c.index-items-i.result c.index-items-i.is c.requires) c.is_less.ensures

pub returns-in-Lt : goal.returns-in-Lt
returns-in-Lt g c = rw (c.in-Lt.is, value_read g.T.Number.value c.args.items.now c.args.i c.index-items-i.result c.index-items-i.is c.requires) c.is_less-in-Lt.ensures

pub returns-in-Gte : goal.returns-in-Gte
returns-in-Gte g c = rw (c.in-Gte.is, value_read g.T.Number.value c.args.items.now c.args.i c.index-items-i.result c.index-items-i.is c.requires) (ap not c.is_less-in-Gte.ensures ∙ not_less (g.T.Number.value c.index-items-i.result) (g.T.Number.value c.args.constant))

pub returns-in-Lte : goal.returns-in-Lte
returns-in-Lte g c = rw (c.in-Lte.is, value_read g.T.Number.value c.args.items.now c.args.i c.index-items-i.result c.index-items-i.is c.requires) (ap not c.is_less-in-Lte.ensures ∙ not_less (g.T.Number.value c.args.constant) (g.T.Number.value c.index-items-i.result))
