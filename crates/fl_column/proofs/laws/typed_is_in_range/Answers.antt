use Rattle.fl_types.specs.Integers.{fits}
use Rattle.fl_column.proofs.GatherLaws.{range_all}
use Rattle.fl_column.proofs.ListLaws.{all_mapped_more}
use Rattle.fl_column.proofs.laws.typed_is_in_range.Goals as goal

pub loop-item-preserved : goal.loop-item-preserved
loop-item-preserved g c = all_mapped_more (fits g.T.NativePType.PTYPE) g.T.Number.value c.as_slice-items.result.now c.loop-item.item-index c.item-item.result c.loop-item-test.true c.item-item.is c.loop-item.invariant c.integer_is_in_range.ensures

pub returns : goal.returns
returns g c = range_all g.T.Number.value c.as_slice-items.result.now c.args.array.now.slots g.T.NativePType.PTYPE c.args.array.now.ptype c.loop-item.item-index c.as_slice-items.ensures c.requires c.loop-item-test.false c.loop-item.invariant
