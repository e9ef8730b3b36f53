use Rattle.std.proofs.Common.{map}
use Rattle.fl_codec.specs.FoRColumns.{minus_reference}
use Rattle.fl_codec.specs.Parts.{items_of_primitive}
use Rattle.fl_compress.specs.Choices.{part_of}
use Rattle.fl_compress.proofs.DifferenceLaws.{one_held}
use Rattle.fl_compress.proofs.PartLaws.{part_covers}
use Rattle.fl_compress.proofs.search.choose_less_one.Goals as goal

pub returns-clause-choice : goal.returns-clause-choice
returns-clause-choice g c =
    let q = part_of c.args.part c.args.array.now in
    let reference = g.T.Number.value c.args.reference in
    c.choose_differences.ensures.choice (map (minus_reference q.ptype reference) (items_of_primitive q)) (one_held q reference (part_covers c.args.part c.args.array.now c.validity-validity.ensures.covers))
