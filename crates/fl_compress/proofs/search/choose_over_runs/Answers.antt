use Rattle.std.proofs.Common.{arith}
use Rattle.fl_encode.specs.SchemeShapes.{shape}
use Rattle.fl_compress.specs.Choices.{chosen, run_values_of}
use Rattle.fl_compress.proofs.AnswerLaws.{dear_indices, dear_runs, passed_on, runs_choice}
use Rattle.fl_compress.proofs.search.choose_over_runs.Goals as goal

pub returns-then-first-indices-clause-choice : goal.returns-then-first-indices-clause-choice
returns-then-first-indices-clause-choice c =
    dear_indices (run_values_of c.args.which) (shape c.args.first.scheme) c.args.first.bytes _ _ _ (shape c.in_ok-indices.indices.scheme, c.in_ok-indices.indices.bytes) c.in_ok-indices.ensures.choice (omega arith)

pub returns-then-first-indices-2-clause-choice : goal.returns-then-first-indices-2-clause-choice
returns-then-first-indices-2-clause-choice c =
    dear_runs (run_values_of c.args.which) (shape c.args.first.scheme) c.args.first.bytes _ _ _ (shape c.in_ok-indices.indices.scheme, c.in_ok-indices.indices.bytes) (shape c.in_ok-offsets.offsets.scheme, c.in_ok-offsets.offsets.bytes)
    c.in_ok-indices.ensures.choice c.in_ok-offsets.ensures.choice (omega arith)

pub returns-clause-choice : goal.returns-clause-choice
returns-clause-choice c =
    runs_choice (run_values_of c.args.which) (chosen c.args.first) _ _ _ (chosen c.in_ok-values.values) (chosen c.in_ok-indices.indices) (chosen c.in_ok-offsets.offsets) (chosen c.in_ok-made.made) (chosen c.cheaper.result)
    c.in_ok-values.ensures.choice c.in_ok-indices.ensures.choice c.in_ok-offsets.ensures.choice c.in_ok-made.ensures c.cheaper.ensures.choice

pub returns-in_err-offsets-clause-choice : goal.returns-in_err-offsets-clause-choice
returns-in_err-offsets-clause-choice c = passed_on chosen c.from_residual-in_err-offsets.result c.in_err-offsets.field-0.0 _ _ c.from_residual-in_err-offsets.ensures.1 c.in_err-offsets.ensures.choice

pub returns-in_err-values-clause-choice : goal.returns-in_err-values-clause-choice
returns-in_err-values-clause-choice c = passed_on chosen c.from_residual-in_err-values.result c.in_err-values.field-0.0 _ _ c.from_residual-in_err-values.ensures.1 c.in_err-values.ensures.choice
