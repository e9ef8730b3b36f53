use Rattle.std.proofs.Common.{◌+◌, ◌∙◌, None, arith, get_or, sym}
use Rattle.fl_bitpacking.proofs.Natives.{value_at_read}
use Rattle.fl_scan.proofs.BoundLaws.{valid_below}
use Rattle.fl_scan.proofs.bounds.is_item_below.Goals as goal

pub returns-else-not-is_valid : goal.returns-else-not-is_valid
returns-else-not-is_valid g c =
    let value = g.T.Number.value in
    let items = c.args.items.now in
    let i = c.args.i in
    let k = c.args.start + i in
    let room = c.requires.read.range in
    let inside = c.requires.place in
    let there = sym c.if-not-is_valid.false ∙ c.is_valid.ensures ∙ c.requires.read.validity_of.valid k (omega arith) in
    let x = c.index-items-i.result in
    c.is_less.ensures ∙ valid_below (get_or c.args.reader.now.column.items k None) (value x) (value c.args.value) there (λ y e. sym (value_at_read value items i x inside c.index-items-i.is) ∙ c.requires.read.shown i y inside e)
