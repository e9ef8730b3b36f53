use borrow.Author.Count.{falls}
use Rattle.std.proofs.Common.{None, get_or, length, refl}
use Rattle.fl_types.specs.Types.{is_nullable}
use Rattle.fl_column.specs.Columns.{column_of_primitive}
use Rattle.fl_column.specs.Selections.{is_below_length, item_at_position, items_at}
use Rattle.fl_column.proofs.GatherLaws.{gathered_all, mapped_all, mapped_more}
use Rattle.fl_column.proofs.ListLaws.{all_at}
use Rattle.fl_array.specs.Trees.{column}
use Rattle.fl_ops.proofs.ItemLaws.{no_nulls_yet, out_of_memory, without_nulls_more}
use Rattle.fl_ops.proofs.takes.items.items_typed.Goals as goal

pub returns-in_err-taken : goal.returns-in_err-taken
returns-in_err-taken g c = out_of_memory column_of_primitive c.from_residual.result _ c.in_err-taken.field-0.0 c.from_residual.ensures.1 c.in_err-taken.ensures.memory

pub loop-position-init : goal.loop-position-init
loop-position-init g c = record {
  items = c.in_ok-taken.ensures.items;
  nulls = no_nulls_yet c.args.nullability c.in_ok-taken.taken c.in_ok-taken.ensures.items;
}

pub push_item-requires-clause-below : goal.push_item-requires-clause-below
push_item-requires-clause-below g c = all_at (is_below_length (length (column c.args.array.now).items)) c.args.positions.now c.loop-position.position-index None c.requires.below c.loop-position-test.true

pub returns-in_err-push_item : goal.returns-in_err-push_item
returns-in_err-push_item g c = out_of_memory column_of_primitive c.from_residual-in_err-push_item.result _ c.in_err-push_item.field-0.0 c.from_residual-in_err-push_item.ensures.1 c.in_err-push_item.ensures.memory

pub loop-position-smaller : goal.loop-position-smaller
loop-position-smaller g c = falls (length c.args.positions.now) c.loop-position.position-index c.loop-position-test.true

pub loop-position-preserved : goal.loop-position-preserved
loop-position-preserved g c =
    let d = column c.args.array.now in
    let positions = c.args.positions.now in
    let i = c.loop-position.position-index in
    let taken = c.loop-position.taken in
    let y = item_at_position d.items (get_or positions i None) in record {
      items = mapped_more (item_at_position d.items) taken c.push_item.new.taken positions i None y c.in_ok-push_item.ensures.item c.loop-position.invariant.items refl c.loop-position-test.true;
      nulls = without_nulls_more c.args.nullability (is_nullable d.dtype) positions i taken c.push_item.new.taken y c.in_ok-push_item.ensures.item c.loop-position.invariant.nulls c.requires.nulls c.in_ok-push_item.ensures.null c.loop-position-test.true;
    }

pub finish-requires : goal.finish-requires
finish-requires g c = c.loop-position.invariant.nulls

pub returns : goal.returns
returns g c =
    let items = (column c.args.array.now).items in
    let positions = c.args.positions.now in
    let taken = c.loop-position.taken in
    let ptype = g.T.NativePType.PTYPE in
    gathered_all ptype ptype c.args.nullability taken (items_at items positions) c.finish.result c.finish.ensures refl (mapped_all (item_at_position items) taken positions c.loop-position.position-index c.loop-position.invariant.items c.loop-position-test.false)
