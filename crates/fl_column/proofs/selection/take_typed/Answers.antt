use Rattle.std.proofs.Common.{map, option_map}
use Rattle.fl_types.specs.Buffers.{integers_of, ptype_of}
use Rattle.fl_types.specs.Validities.{items_of}
use Rattle.fl_column.specs.Selections.{item_at_position, items_at}
use Rattle.fl_column.proofs.GatherLaws.{covers_read, mapped_all, nulls_kept, gathered_all, position_below, taken_item_more}
use Rattle.fl_types.proofs.Refused.{no_memory_there}
use Rattle.fl_column.proofs.selection.take_typed.Goals as goal

pub loop-position-preserved : goal.loop-position-preserved
loop-position-preserved g c = taken_item_more c.args.validity.now (map g.T.Number.value c.as_slice-items.result.now) (integers_of c.args.slots.now) c.args.positions.now c.loop-position.position-index c.loop-position.taken c.push.new.self (option_map g.T.Number.value c.item_at_position.result) c.as_slice-items.ensures c.in_ok-push.ensures.items c.loop-position.invariant c.item_at_position.ensures c.loop-position-test.true

pub item_at_position-requires-clause-below : goal.item_at_position-requires-clause-below
item_at_position-requires-clause-below g c = position_below g.T.Number.value c.as_slice-items.result.now (integers_of c.args.slots.now) c.args.positions.now c.loop-position.position-index c.as_slice-items.ensures c.requires.below c.loop-position-test.true

pub finish-requires : goal.finish-requires
finish-requires g c =
    let items = items_of c.args.validity.now (integers_of c.args.slots.now) in
    let taken = c.loop-position.taken in
    nulls_kept c.args.nullability taken (items_at items c.args.positions.now) (mapped_all (item_at_position items) taken c.args.positions.now c.loop-position.position-index c.loop-position.invariant c.loop-position-test.false) c.requires.nulls

pub returns : goal.returns
returns g c =
    let items = items_of c.args.validity.now (integers_of c.args.slots.now) in
    let taken = c.loop-position.taken in
    gathered_all g.T.NativePType.PTYPE (ptype_of c.args.slots.now) c.args.nullability taken (items_at items c.args.positions.now) c.finish.result c.finish.ensures c.requires.same (mapped_all (item_at_position items) taken c.args.positions.now c.loop-position.position-index c.loop-position.invariant c.loop-position-test.false)

pub item_at_position-requires-clause-covers : goal.item_at_position-requires-clause-covers
item_at_position-requires-clause-covers g c = covers_read g.T.Number.value c.as_slice-items.result.now (integers_of c.args.slots.now) c.args.validity.now c.as_slice-items.ensures c.requires.covers

pub loop-position-init : goal.loop-position-init
loop-position-init g c = c.in_ok-taken.ensures.items

pub returns-in_err-taken : goal.returns-in_err-taken
returns-in_err-taken g c = no_memory_there _ c.from_residual.result _ _ c.from_residual.ensures.1 c.in_err-taken.ensures.memory

pub returns-in_err-push : goal.returns-in_err-push
returns-in_err-push g c = no_memory_there _ c.from_residual-in_err-push.result _ _ c.from_residual-in_err-push.ensures.1 c.in_err-push.ensures.memory
