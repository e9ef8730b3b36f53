use Rattle.fl_bitpacking.proofs.OneWidth.{blocked_accepted, blocked_column}
use Rattle.fl_bitpacking.proofs.packed_data.PackedData.global_boundaries.Goals as goal

pub returns-clause-blocked : goal.returns-clause-blocked
returns-clause-blocked c = blocked_accepted c.args.self.now c.args.width c.requires

pub returns-clause-column : goal.returns-clause-column
returns-clause-column c = blocked_column c.args.self.now c.args.width
