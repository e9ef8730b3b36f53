use Rattle.std.proofs.Common.{sym, ◌∙◌, ap, length, arith}
use Rattle.flcol_engine.proofs.LengthLemmas.{null_line, valid_line}
use Rattle.flcol_engine.proofs.printing.put_item.Goals as goal

pub put_integer-requires-clause-room : goal.put_integer-requires-clause-room
put_integer-requires-clause-room g c = rw (← valid_line g.T.Number.value g.T.NativePType.PTYPE c.args.validity.now c.args.slots.now c.args.i c.index-slots-i.result c.requires.bit c.requires.slot (sym c.is_valid.ensures ∙ c.if-is_valid.true) (sym c.index-slots-i.is)) c.requires.room

pub put_null-requires-clause-room : goal.put_null-requires-clause-room
put_null-requires-clause-room g c =
    let len = ap length (null_line g.T.Number.value g.T.NativePType.PTYPE c.args.validity.now c.args.slots.now c.args.i c.requires.bit c.requires.slot (sym c.is_valid.ensures ∙ c.if-is_valid.false)) in
    omega (arith, len, c.requires.room)

pub returns-then-is_valid-clause-start : goal.returns-then-is_valid-clause-start
returns-then-is_valid-clause-start g c = rw (valid_line g.T.Number.value g.T.NativePType.PTYPE c.args.validity.now c.args.slots.now c.args.i c.index-slots-i.result c.requires.bit c.requires.slot (sym c.is_valid.ensures ∙ c.if-is_valid.true) (sym c.index-slots-i.is)) c.put_integer.ensures.start

pub returns-then-is_valid-clause-written : goal.returns-then-is_valid-clause-written
returns-then-is_valid-clause-written g c = rw (valid_line g.T.Number.value g.T.NativePType.PTYPE c.args.validity.now c.args.slots.now c.args.i c.index-slots-i.result c.requires.bit c.requires.slot (sym c.is_valid.ensures ∙ c.if-is_valid.true) (sym c.index-slots-i.is)) c.put_integer.ensures.written

pub returns-else-is_valid-clause-start : goal.returns-else-is_valid-clause-start
returns-else-is_valid-clause-start g c = rw (null_line g.T.Number.value g.T.NativePType.PTYPE c.args.validity.now c.args.slots.now c.args.i c.requires.bit c.requires.slot (sym c.is_valid.ensures ∙ c.if-is_valid.false)) c.put_null.ensures.start

pub returns-else-is_valid-clause-written : goal.returns-else-is_valid-clause-written
returns-else-is_valid-clause-written g c = rw (null_line g.T.Number.value g.T.NativePType.PTYPE c.args.validity.now c.args.slots.now c.args.i c.requires.bit c.requires.slot (sym c.is_valid.ensures ∙ c.if-is_valid.false)) c.put_null.ensures.written
