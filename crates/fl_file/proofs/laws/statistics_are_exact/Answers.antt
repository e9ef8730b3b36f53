use Rattle.fl_file.proofs.StatisticsLaws.{statistics_are}
use Rattle.fl_file.proofs.laws.statistics_are_exact.Goals as goal

pub returns : goal.returns
returns c = statistics_are
