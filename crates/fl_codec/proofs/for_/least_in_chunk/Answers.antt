use Rattle.std.proofs.Common.{map, ap, ◌∙◌}
use Rattle.fl_types.specs.Validities.{items_of}
use Rattle.fl_codec.specs.FoRColumns.{least_by, reading}
use Rattle.fl_codec.proofs.ReferenceLaws.{chunk_reached, length-items_read}
use Rattle.fl_codec.proofs.for_.least_in_chunk.Goals as goal

pub returns : goal.returns
returns g c =
    let items = items_of c.args.validity.now (map g.T.Number.value c.args.items.now) in
    let each = length-items_read g.T.Number.value c.args.validity.now c.args.items.now c.requires.covers in
    c.least_between.ensures ∙ ap (least_by (reading c.args.order g.T.NativePType.PTYPE)) (chunk_reached items c.args.k c.chunk_end-end.result (rw each c.requires.chunk) (rw each c.chunk_end-end.ensures))
