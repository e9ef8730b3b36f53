use Rattle.std.proofs.Common.{sym, ◌∙◌}
use Rattle.fl_codec.specs.Parts.{run_parts}
use Rattle.fl_array.proofs.EncodedRLE.{ok_is}
use Rattle.fl_encode.specs.SchemeShapes.{shape}
use Rattle.fl_encode.specs.Shapes.{Dictionary}
use Rattle.fl_compress.specs.Choices.{chosen}
use Rattle.fl_compress.proofs.AnswerLaws.{allowed_runs, no_runs}
use Rattle.fl_compress.proofs.FewerLevels.{same_runs, single_runs}
use Rattle.fl_compress.proofs.search.choose_with_dictionaries.Goals as goal

pub returns-then-not-has_level : goal.returns-then-not-has_level
returns-then-not-has_level c = no_runs Dictionary c.args.limits.now.dict c.args.limits.now c.args.array.now (chosen c.args.first) (sym c.has_level.ensures ∙ c.if-not-has_level.true)

pub returns-then-are_items_distinct : goal.returns-then-are_items_distinct
returns-then-are_items_distinct c =
    single_runs Dictionary c.args.limits.now.dict c.args.limits.now c.args.array.now (shape c.args.first.scheme) c.args.first.bytes (sym c.has_level.ensures ∙ c.if-not-has_level.false) c.requires.deltas (c.are_items_distinct.ensures c.if-are_items_distinct.true)

pub returns : goal.returns
returns c =
    allowed_runs Dictionary c.args.limits.now.dict c.args.limits.now c.args.array.now (run_parts c.in_ok-runs.runs) (chosen c.args.first) c.choose_over_runs.result (sym c.has_level.ensures ∙ c.if-not-has_level.false) (ok_is _ _ c.in_ok-runs.ensures) c.choose_over_runs.ensures.choice

pub returns-then-are_sorted : goal.returns-then-are_sorted
returns-then-are_sorted c =
    same_runs c.args.limits.now c.args.array.now (shape c.args.first.scheme) c.args.first.bytes c.if-limits.true (sym c.has_level.ensures ∙ c.if-not-has_level.false) c.requires.runs (c.are_sorted.ensures c.if-are_sorted.true)
