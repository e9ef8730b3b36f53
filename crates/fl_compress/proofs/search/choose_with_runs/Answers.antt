use Rattle.std.proofs.Common.{sym, ◌∙◌}
use Rattle.fl_codec.specs.Parts.{run_parts}
use Rattle.fl_array.proofs.EncodedRLE.{ok_is}
use Rattle.fl_encode.specs.SchemeShapes.{shape}
use Rattle.fl_encode.specs.Shapes.{Runs}
use Rattle.fl_compress.specs.Choices.{chosen}
use Rattle.fl_compress.proofs.AnswerLaws.{allowed_runs, no_runs}
use Rattle.fl_compress.proofs.FewerLevels.{single_runs}
use Rattle.fl_compress.proofs.search.choose_with_runs.Goals as goal

pub returns-then-not-has_level-clause-choice : goal.returns-then-not-has_level-clause-choice
returns-then-not-has_level-clause-choice c = no_runs Runs c.args.limits.now.rle c.args.limits.now c.args.array.now (chosen c.args.first) (sym c.has_level.ensures ∙ c.if-not-has_level.true)

pub returns-then-are_runs_single-clause-choice : goal.returns-then-are_runs_single-clause-choice
returns-then-are_runs_single-clause-choice c =
    single_runs Runs c.args.limits.now.rle c.args.limits.now c.args.array.now (shape c.args.first.scheme) c.args.first.bytes (sym c.has_level.ensures ∙ c.if-not-has_level.false) c.requires (c.are_runs_single.ensures c.if-are_runs_single.true)

pub returns-clause-choice : goal.returns-clause-choice
returns-clause-choice c =
    allowed_runs Runs c.args.limits.now.rle c.args.limits.now c.args.array.now (run_parts c.in_ok-runs.runs) (chosen c.args.first) c.choose_over_runs.result (sym c.has_level.ensures ∙ c.if-not-has_level.false) (ok_is _ _ c.in_ok-runs.ensures) c.choose_over_runs.ensures.choice
