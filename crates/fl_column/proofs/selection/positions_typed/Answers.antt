use Rattle.std.proofs.Common.{option_map, rules, refl}
use Rattle.fl_types.specs.Buffers.{integers_of}
use Rattle.fl_column.proofs.GatherLaws.{covers_read, positions_more, positions_fail, positions_end}
use Rattle.fl_types.proofs.Refused.{no_memory}
use Rattle.fl_column.proofs.selection.positions_typed.Goals as goal

pub loop-i-preserved : goal.loop-i-preserved
loop-i-preserved g c =
    let more = positions_more g.T.Number.value c.as_slice-indices.result.now (integers_of c.args.slots.now) c.args.validity.now c.args.len c.loop-i.i c.loop-i.positions.items c.push.new.self.items c.position_of.result (option_map g.T.Number.value c.item_at-index.result) c.as_slice-indices.ensures c.requires.covers c.loop-i-test.true c.loop-i.invariant.range c.loop-i.invariant.items c.in_ok-push.ensures.items c.if-not-names_item.ensures c.position_of.ensures c.item_at-index.ensures in
    record { range = more.0; items = more.1 }

pub returns-then-not-names_item : goal.returns-then-not-names_item
returns-then-not-names_item g c = positions_fail g.T.Number.value c.as_slice-indices.result.now (integers_of c.args.slots.now) c.args.validity.now c.args.len c.loop-i.i (option_map g.T.Number.value c.item_at-index.result) c.as_slice-indices.ensures c.requires.covers c.loop-i-test.true c.if-not-names_item.ensures c.item_at-index.ensures

pub returns : goal.returns
returns g c = positions_end g.T.Number.value c.as_slice-indices.result.now (integers_of c.args.slots.now) c.args.validity.now c.args.len c.loop-i.i c.loop-i.positions.items c.as_slice-indices.ensures c.requires.covers c.loop-i-test.false c.loop-i.invariant.range c.loop-i.invariant.items

pub item_at-index-requires-clause-covers : goal.item_at-index-requires-clause-covers
item_at-index-requires-clause-covers g c = covers_read g.T.Number.value c.as_slice-indices.result.now (integers_of c.args.slots.now) c.args.validity.now c.as_slice-indices.ensures c.requires.covers

pub item_at-index-requires-clause-range : goal.item_at-index-requires-clause-range
item_at-index-requires-clause-range g c = c.loop-i-test.true

-- said here, where the search finds it too: a body that breaks it is refused at once
pub position_of-requires : goal.position_of-requires
position_of-requires g c = search rules

pub returns-in_err-positions : goal.returns-in_err-positions
returns-in_err-positions g c = no_memory _ c.from_residual.result _ c.from_residual.ensures.1

pub returns-in_err-push : goal.returns-in_err-push
returns-in_err-push g c = no_memory _ c.from_residual-in_err-push.result _ c.from_residual-in_err-push.ensures.1

pub loop-i-init : goal.loop-i-init
loop-i-init g c = record { range = refl; items = c.in_ok-positions.ensures.items }
