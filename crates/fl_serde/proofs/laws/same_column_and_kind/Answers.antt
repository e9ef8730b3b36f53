use Rattle.fl_serde.proofs.ColumnsAgain.{column_back, kind_back}
use Rattle.fl_serde.proofs.laws.same_column_and_kind.Goals as goal

pub returns : goal.returns
returns c = record { column = column_back; kind = kind_back }
