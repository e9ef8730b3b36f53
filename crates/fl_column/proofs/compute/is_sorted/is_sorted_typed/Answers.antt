use Rattle.std.proofs.Common.{map, None, option_map}
use Rattle.fl_types.specs.Buffers.{integers_of}
use Rattle.fl_types.specs.Validities.{items_of}
use Rattle.fl_column.specs.Queries.{in_order}
use Rattle.fl_column.proofs.GatherLaws.{covers_read, pairs_more, pairs_fail, pairs_all}
use Rattle.fl_column.proofs.compute.is_sorted.is_sorted_typed.Goals as goal

pub loop-i-preserved : goal.loop-i-preserved
loop-i-preserved g c = pairs_more (in_order c.args.strict) (items_of c.args.validity.now (map g.T.Number.value c.as_slice-items.result.now)) None c.loop-i.i (option_map g.T.Number.value c.item_at.result) (option_map g.T.Number.value c.item_at-in-loop-i.result) c.loop-i.auto.i c.loop-i.invariant c.if-not-is_in_order.ensures c.item_at.ensures c.item_at-in-loop-i.ensures

pub returns-then-not-is_in_order : goal.returns-then-not-is_in_order
returns-then-not-is_in_order g c = pairs_fail (in_order c.args.strict) g.T.Number.value c.as_slice-items.result.now (integers_of c.args.slots.now) c.args.validity.now c.loop-i.i (option_map g.T.Number.value c.item_at.result) (option_map g.T.Number.value c.item_at-in-loop-i.result) c.as_slice-items.ensures c.requires.covers c.loop-i.auto.i c.loop-i-test.true c.if-not-is_in_order.ensures c.item_at.ensures c.item_at-in-loop-i.ensures

pub returns : goal.returns
returns g c = pairs_all (in_order c.args.strict) g.T.Number.value c.as_slice-items.result.now (integers_of c.args.slots.now) c.args.validity.now c.loop-i.i c.as_slice-items.ensures c.requires.covers c.loop-i-test.false c.loop-i.invariant

pub item_at-requires-clause-covers : goal.item_at-requires-clause-covers
item_at-requires-clause-covers g c = covers_read g.T.Number.value c.as_slice-items.result.now (integers_of c.args.slots.now) c.args.validity.now c.as_slice-items.ensures c.requires.covers

pub item_at-requires-in-loop-i-clause-covers : goal.item_at-requires-in-loop-i-clause-covers
item_at-requires-in-loop-i-clause-covers g c = covers_read g.T.Number.value c.as_slice-items.result.now (integers_of c.args.slots.now) c.args.validity.now c.as_slice-items.ensures c.requires.covers

pub item_at-requires-in-loop-i-clause-range : goal.item_at-requires-in-loop-i-clause-range
item_at-requires-in-loop-i-clause-range g c = c.loop-i-test.true
