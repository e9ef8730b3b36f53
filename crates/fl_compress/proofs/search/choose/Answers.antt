use Rattle.std.proofs.Common.{arith}
use Rattle.fl_compress.specs.Choices.{chosen}
use Rattle.fl_encode.specs.SchemeShapes.{shape}
use Rattle.fl_compress.proofs.AnswerLaws.{free_candidate, whole_search}
use Rattle.fl_compress.proofs.FewerLevels.{delta_costs, no_dearer}
use Rattle.fl_compress.proofs.search.choose.Goals as goal

pub returns-then-best-eq0 : goal.returns-then-best-eq0
returns-then-best-eq0 c = free_candidate c.args.limits.now c.args.array.now (shape c.in_ok-best.best.scheme) c.in_ok-best.best.bytes c.in_ok-best.ensures.choice c.if-best-eq0.true

pub choose_with_runs-requires : goal.choose_with_runs-requires
choose_with_runs-requires c = delta_costs c.args.limits.now c.args.array.now (shape c.in_ok-best.best.scheme) c.in_ok-best.best.bytes c.in_ok-best.best.bytes (omega arith) c.in_ok-best.ensures.choice

pub choose_with_dictionaries-requires-clause-deltas : goal.choose_with_dictionaries-requires-clause-deltas
choose_with_dictionaries-requires-clause-deltas c = delta_costs c.args.limits.now c.args.array.now (shape c.in_ok-best.best.scheme) c.in_ok-best.best.bytes c.in_ok-with_runs.with_runs.bytes c.in_ok-with_runs.ensures.most c.in_ok-best.ensures.choice

pub choose_with_dictionaries-requires-clause-runs : goal.choose_with_dictionaries-requires-clause-runs
choose_with_dictionaries-requires-clause-runs c = no_dearer (chosen c.in_ok-best.best) _ (shape c.in_ok-with_runs.with_runs.scheme, c.in_ok-with_runs.with_runs.bytes) c.in_ok-with_runs.ensures.choice

pub returns : goal.returns
returns c =
    whole_search c.args.limits.now c.args.array.now (chosen c.in_ok-best.best) (chosen c.in_ok-with_runs.with_runs) c.choose_with_dictionaries.result c.in_ok-best.ensures.choice c.in_ok-with_runs.ensures.choice c.choose_with_dictionaries.ensures
