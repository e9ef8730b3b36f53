use Rattle.std.proofs.Common.{Some, ap, sym, ◌∙◌}
use Rattle.fl_array.proofs.EncodedRLE.{ok_is}
use Rattle.fl_codec.specs.Parts.{subtract_min}
use Rattle.fl_compress.specs.Choices.{part_of}
use Rattle.fl_compress.specs.Statistics.{reference_sizes}
use Rattle.fl_compress.proofs.AnswerLaws.{gives}
use Rattle.fl_compress.proofs.statistics.one_reference.Goals as goal

pub returns-in_ok-sizes-in-Some : goal.returns-in_ok-sizes-in-Some
returns-in_ok-sizes-in-Some g c =
    let q = part_of c.args.part c.args.array.now in
    gives _ _ (ap (λ o. reference_sizes (subtract_min q o)) (sym (rw c.in-Some.is at c.requires.least)) ∙ ap (λ s. Some s) (ok_is _ _ c.in_ok-sizes-in-Some.ensures))

pub returns-in-None : goal.returns-in-None
returns-in-None g c =
    let q = part_of c.args.part c.args.array.now in
    gives _ _ (ap (λ o. reference_sizes (subtract_min q o)) (sym (rw c.in-None.is at c.requires.least)))
