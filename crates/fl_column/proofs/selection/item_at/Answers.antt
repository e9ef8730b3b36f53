use Rattle.std.proofs.Common.{sym}
use Rattle.fl_column.proofs.ItemLaws.{valid_item_read, null_item_read}
use Rattle.fl_column.proofs.selection.item_at.Goals as goal

pub returns-then-is_valid : goal.returns-then-is_valid
returns-then-is_valid g c = sym (valid_item_read g.T.Number.value c.args.validity.now c.args.items.now c.args.i _ c.requires.covers c.requires.range (sym c.if-is_valid.ensures) c.index-items-i.is)

pub returns-else-is_valid : goal.returns-else-is_valid
returns-else-is_valid g c = sym (null_item_read g.T.Number.value c.args.validity.now c.args.items.now c.args.i c.requires.covers c.requires.range (sym c.if-is_valid.ensures))
