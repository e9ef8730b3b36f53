use Rattle.fl_metadata.proofs.FieldRows.{fields_sound, fields_again}
use Rattle.fl_metadata.proofs.laws.row_is_read.Goals as goal

pub returns : goal.returns
returns c = record { found = fields_sound; only = fields_again }
