use Rattle.flcol_engine.proofs.ColumnLemmas.{column_back}
use Rattle.flcol_engine.proofs.text.read_has_column.Goals as goal

pub returns : goal.returns
returns c = column_back c.args.ptype c.args.nullability
