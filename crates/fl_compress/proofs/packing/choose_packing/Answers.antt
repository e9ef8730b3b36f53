use Rattle.std.proofs.Common.{sym, ◌∙◌}
use Rattle.fl_compress.specs.Candidates.{has_level}
use Rattle.fl_compress.specs.Choices.{chosen_in, part_of, with_slots}
use Rattle.fl_compress.proofs.AnswerLaws.{packing_choice}
use Rattle.fl_compress.proofs.ListLaws.{no_list}
use Rattle.fl_compress.proofs.packing.choose_packing.Goals as goal

pub returns-then-not-has_level : goal.returns-then-not-has_level
returns-then-not-has_level c = λ slots long counted. sym (no_list (with_slots (part_of c.args.part c.args.array.now) slots) (has_level c.args.limits.now.bitpacked c.args.depth) _ (sym c.has_level.ensures ∙ c.if-not-has_level.true))

pub returns : goal.returns
returns c = λ slots long counted.
    packing_choice (with_slots (part_of c.args.part c.args.array.now) slots) (has_level c.args.limits.now.bitpacked c.args.depth) c.at_best_width-global.result c.at_best_widths-blocked.result (chosen_in c.cheaper_packing.result) (sym c.has_level.ensures ∙ c.if-not-has_level.false)
    (c.at_best_width-global.ensures slots long counted) (c.at_best_widths-blocked.ensures slots long counted) c.cheaper_packing.ensures
