use Rattle.std.proofs.Common.{◌+◌, ◌*◌, None, map, arith, sym, ◌∙◌}
use Rattle.std.proofs.lemmas.List.{get_or_past}
use Rattle.fl_types.specs.Validities.{items_of}
use Rattle.fl_codec.proofs.ForwardFillLaws.{get_or-chunk}
use Rattle.fl_codec.proofs.ReferenceLaws.{length-items_read}
use Rattle.fl_codec.proofs.chunks.item_in_chunk.Goals as goal

pub returns-else-q-items : goal.returns-else-q-items
returns-else-q-items g c =
    let items = items_of c.args.validity.now (map g.T.Number.value c.args.items.now) in
    let each = length-items_read g.T.Number.value c.args.validity.now c.args.items.now c.requires.covers in
    sym (get_or-chunk items c.args.k c.args.q None c.requires.position ∙ get_or_past items (1024 * c.args.k + c.args.q) None (omega arith))

pub returns-then-q-items : goal.returns-then-q-items
returns-then-q-items g c =
    let items = items_of c.args.validity.now (map g.T.Number.value c.args.items.now) in
    c.item_at.ensures ∙ sym (get_or-chunk items c.args.k c.args.q None c.requires.position)
