use Rattle.std.proofs.Common.{length}
use Rattle.fl_encode.proofs.text.reading.+rest_behind.Given as goal

abbrev pub decreases-rest_behind : goal.decreases-rest_behind
decreases-rest_behind l = length l.word.now
