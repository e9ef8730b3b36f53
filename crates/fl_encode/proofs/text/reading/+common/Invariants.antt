use Rattle.std.proofs.Common.{length}
use Rattle.fl_encode.proofs.text.reading.+common.Given as goal

abbrev pub decreases-common : goal.decreases-common
decreases-common l = length l.word.now
