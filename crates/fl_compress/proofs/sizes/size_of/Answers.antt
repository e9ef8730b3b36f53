use Rattle.fl_encode.specs.SchemeShapes.{shape}
use Rattle.fl_compress.proofs.StatisticsLaws.{size_is_encoded, size_is_exact, size_is_refused}
use Rattle.fl_compress.proofs.sizes.size_of.Goals as goal

pub returns-clause-exact : goal.returns-clause-exact
returns-clause-exact c = λ p is in_set. size_is_exact p c.args.statistics.now (shape c.args.scheme.now) c.candidate_size.result c.candidate_size.ensures is in_set

pub returns-clause-encoded : goal.returns-clause-encoded
returns-clause-encoded c = λ p t is in_set none made. size_is_encoded p c.args.statistics.now (shape c.args.scheme.now) t c.candidate_size.result c.candidate_size.ensures is in_set none made

pub returns-clause-refused : goal.returns-clause-refused
returns-clause-refused c = λ p is refused. size_is_refused p c.args.statistics.now (shape c.args.scheme.now) c.candidate_size.result c.candidate_size.ensures is refused
