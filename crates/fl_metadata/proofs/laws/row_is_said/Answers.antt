use Rattle.fl_metadata.proofs.RowsSay.{row_says, row_is_said, only_bad}
use Rattle.fl_metadata.proofs.laws.row_is_said.Goals as goal

pub returns : goal.returns
returns c = record { found = row_says; only = row_is_said; refused = only_bad }
