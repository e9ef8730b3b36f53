use Rattle.std.proofs.Common.{ap, sym, ◌∙◌}
use Rattle.fl_array.proofs.EncodedRLE.{ok_is}
use Rattle.fl_column.specs.Queries.{are_constant}
use Rattle.fl_statistics.specs.BitStatistics.{bit_statistics}
use Rattle.fl_compress.specs.Choices.{part_of, with_slots}
use Rattle.fl_compress.proofs.AnswerLaws.{gives}
use Rattle.fl_compress.proofs.DifferenceLaws.{plain_alike}
use Rattle.fl_compress.proofs.StatisticsLaws.{packed_sizes_are}
use Rattle.fl_compress.proofs.statistics.difference_sizes.Goals as goal

pub returns : goal.returns
returns g c = λ slots held.
    let q = part_of c.args.part c.args.array.now in
    let counted = sym (ok_is _ _ c.in_ok-statistics.ensures) ∙ ap (bit_statistics q.ptype) (sym held.1) in
    gives _ _ (sym (packed_sizes_are (with_slots q slots) _ _ _ _ (c.plain_bytes.ensures.value ∙ plain_alike q slots held.0) (sym (ok_is _ _ c.in_ok-equal.ensures) ∙ ap are_constant (sym held.1)) (c.at_best_width.ensures slots held.0 counted) (c.at_best_widths.ensures slots held.0 counted)))
