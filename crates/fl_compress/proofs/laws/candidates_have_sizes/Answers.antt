use Rattle.fl_compress.proofs.CandidateLaws.{all_candidates}
use Rattle.fl_compress.proofs.laws.candidates_have_sizes.Goals as goal

pub returns : goal.returns
returns c = all_candidates c.args._limits.now
