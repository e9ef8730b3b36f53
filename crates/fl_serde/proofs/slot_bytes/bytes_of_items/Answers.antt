use Rattle.std.proofs.Common.{◌∙◌, ap, map}
use Rattle.std.proofs.lemmas.List.{take_all}
use Rattle.fl_serde.specs.Leaves.{bytes_of_slots}
use Rattle.fl_serde.proofs.LeafLaws.{slots_more}
use Rattle.fl_serde.proofs.slot_bytes.bytes_of_items.Goals as goal

pub loop-item-init : goal.loop-item-init
loop-item-init g c = c.in_ok-reserve.ensures.items ∙ c.new-bytes.ensures.items

pub loop-item-preserved : goal.loop-item-preserved
loop-item-preserved g c =
    slots_more g.T.Number.value g.T.NativePType.PTYPE c.args.items.now c.loop-item.item-index c.item-item.result c.loop-item.bytes.items c.push_bytes.new.bytes.items c.loop-item-test.true c.item-item.is c.in_ok-push_bytes.ensures c.loop-item.invariant

pub returns : goal.returns
returns g c =
    let items = c.args.items.now in
    c.loop-item.invariant ∙ ap (λ l. bytes_of_slots g.T.NativePType.PTYPE (map g.T.Number.value l)) (take_all c.loop-item.item-index items c.loop-item-test.false)
