use Rattle.fl_encode.specs.SchemeShapes.{shape}
use Rattle.fl_compress.specs.Choices.{part_of}
use Rattle.fl_compress.proofs.PartLaws.{part_covers, part_fits}
use Rattle.fl_compress.proofs.ReferenceLaws.{zero_frames}
use Rattle.fl_compress.proofs.search.choose_frames.Goals as goal

pub returns-then-has_zero_leasts-clause-choice : goal.returns-then-has_zero_leasts-clause-choice
returns-then-has_zero_leasts-clause-choice c =
    let p = c.args.array.now in
    zero_frames c.args.order (part_of c.args.part p) c.args.limits.now c.args.depth (shape c.args.first.scheme) c.args.first.bytes (part_covers c.args.part p c.validity-validity.ensures.covers) (part_fits c.args.part p c.stored_integers_are_in_range.ensures.slots)
    (c.has_zero_leasts.ensures c.if-has_zero_leasts.true) c.requires
