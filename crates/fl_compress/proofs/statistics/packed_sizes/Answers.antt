use Rattle.std.proofs.Common.{refl, sym}
use Rattle.fl_array.proofs.EncodedRLE.{ok_is}
use Rattle.fl_compress.specs.Choices.{part_of}
use Rattle.fl_compress.proofs.AnswerLaws.{gives}
use Rattle.fl_compress.proofs.StatisticsLaws.{packed_sizes_are}
use Rattle.fl_compress.proofs.statistics.packed_sizes.Goals as goal

pub returns : goal.returns
returns c =
    let q = part_of c.args.part c.args.array.now in
    let counted = sym (ok_is _ _ c.in_ok-statistics.ensures) in
    gives _ _ (sym (packed_sizes_are q _ _ _ _ c.plain_bytes.ensures.value (sym (ok_is _ _ c.in_ok-equal.ensures)) (c.at_best_width.ensures q.slots refl counted) (c.at_best_widths.ensures q.slots refl counted)))
