use Rattle.fl_bitpacking.proofs.Restores.{column_restored}
use Rattle.fl_bitpacking.proofs.laws.packed_and_back.Goals as goal

pub returns : goal.returns
returns c p patches blocks bytes covered fit packed kept = column_restored p patches blocks bytes covered fit packed kept
