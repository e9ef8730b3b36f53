use Rattle.std.proofs.Common.{map}
use Rattle.fl_codec.specs.FoRColumns.{chunked_slots}
use Rattle.fl_codec.specs.Parts.{items_of_primitive}
use Rattle.fl_compress.specs.Choices.{part_of}
use Rattle.fl_compress.proofs.DifferenceLaws.{chunks_held}
use Rattle.fl_compress.proofs.PartLaws.{part_covers}
use Rattle.fl_compress.proofs.statistics.sizes_less_references.Goals as goal

pub returns : goal.returns
returns g c =
    let q = part_of c.args.part c.args.array.now in
    let value = g.T.Number.value in
    let references = map value c.args.references.now in
    c.difference_sizes.ensures (chunked_slots q.ptype references (items_of_primitive q)) (chunks_held q references (value c.zero.result) c.zero.ensures (part_covers c.args.part c.args.array.now c.validity-validity.ensures.covers))
