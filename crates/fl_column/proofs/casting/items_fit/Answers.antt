use Rattle.std.proofs.Common.{option_map}
use Rattle.fl_types.specs.Integers.{fits}
use Rattle.fl_column.specs.Columns.{option_all}
use Rattle.fl_column.proofs.CastSlotLaws.{items_end, items_fail, items_more}
use Rattle.fl_column.proofs.casting.items_fit.Goals as goal

pub loop-i-preserved : goal.loop-i-preserved
loop-i-preserved g c = items_more g.S.Number.value (option_all (fits g.T.NativePType.PTYPE)) c.args.items.now c.args.validity.now c.loop-i.i (option_map g.S.Number.value c.item_at.result) c.requires c.loop-i-test.true c.loop-i.invariant c.if-not-item_fits.ensures c.item_at.ensures

pub returns-then-not-item_fits : goal.returns-then-not-item_fits
returns-then-not-item_fits g c = items_fail g.S.Number.value (option_all (fits g.T.NativePType.PTYPE)) c.args.items.now c.args.validity.now c.loop-i.i (option_map g.S.Number.value c.item_at.result) c.requires c.loop-i-test.true c.if-not-item_fits.ensures c.item_at.ensures

pub returns : goal.returns
returns g c = items_end g.S.Number.value (option_all (fits g.T.NativePType.PTYPE)) c.args.items.now c.args.validity.now c.loop-i.i c.requires c.loop-i-test.false c.loop-i.invariant
