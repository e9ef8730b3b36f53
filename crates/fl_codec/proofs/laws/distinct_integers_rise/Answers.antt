use Rattle.fl_codec.proofs.DictionaryLaws.{distinct_contains, distinct_only}
use Rattle.fl_codec.proofs.laws.distinct_integers_rise.Goals as goal

pub returns-clause-same : goal.returns-clause-same
returns-clause-same c = distinct_contains

pub returns-clause-only : goal.returns-clause-only
returns-clause-only c = distinct_only
