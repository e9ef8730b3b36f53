use Rattle.std.proofs.Common.{◌-◌, arith, map, refl}
use Rattle.flcol_engine.proofs.LengthLemmas.{line_fits, line_printed, lines_printed, none_printed}
use Rattle.flcol_engine.proofs.printing.put_items.Goals as goal

pub loop-i-init : goal.loop-i-init
loop-i-init g c = none_printed g.T.Number.value g.T.NativePType.PTYPE c.args.validity.now c.args.slots.now _ _ _ c.requires.bit (omega arith) refl c.requires.room

pub put_item-end-requires-clause-room : goal.put_item-end-requires-clause-room
put_item-end-requires-clause-room g c = line_fits g.T.Number.value g.T.NativePType.PTYPE c.args.validity.now c.args.slots.now (c.loop-i.i - 1) c.loop-i.i c.loop-i.end c.loop-i.text c.requires.bit (omega arith) (omega arith) c.loop-i.invariant

pub put_item-end-requires-clause-within : goal.put_item-end-requires-clause-within
put_item-end-requires-clause-within g c = omega (arith, c.loop-i.invariant.start)

pub loop-i-preserved : goal.loop-i-preserved
loop-i-preserved g c = line_printed g.T.Number.value g.T.NativePType.PTYPE c.args.validity.now c.args.slots.now (c.loop-i.i - 1) c.loop-i.i c.loop-i.end c.put_item-end.result c.loop-i.text _ c.requires.bit (omega arith) (omega arith) c.loop-i.invariant c.put_item-end.ensures.start c.put_item-end.ensures.written c.put_item-end.ensures.len

pub returns : goal.returns
returns g c = lines_printed g.T.NativePType.PTYPE c.args.validity.now (map g.T.Number.value c.args.slots.now) c.loop-i.i c.loop-i.end c.loop-i.text (omega (arith, c.loop-i-test.false)) c.loop-i.invariant
