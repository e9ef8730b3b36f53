use Rattle.std.proofs.Common.{sym, ◌∙◌, ap, length}
use Rattle.flcol_engine.proofs.LengthLemmas.{null_line, valid_line}
use Rattle.flcol_engine.proofs.printing.item_len.Goals as goal

pub returns-then-is_valid : goal.returns-then-is_valid
returns-then-is_valid g c = rw (valid_line g.T.Number.value g.T.NativePType.PTYPE c.args.validity.now c.args.slots.now c.args.i c.index-slots-i.result c.requires.bit c.requires.slot (sym c.is_valid.ensures ∙ c.if-is_valid.true) (sym c.index-slots-i.is)) c.integer_len.ensures

pub returns-else-is_valid : goal.returns-else-is_valid
returns-else-is_valid g c = sym (ap length (null_line g.T.Number.value g.T.NativePType.PTYPE c.args.validity.now c.args.slots.now c.args.i c.requires.bit c.requires.slot (sym c.is_valid.ensures ∙ c.if-is_valid.false)))
