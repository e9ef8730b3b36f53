use Rattle.std.proofs.Common.{true, false, refl, ◌∙◌}
use Rattle.fl_types.specs.Validities.{is_valid_at}
use Rattle.fl_patches.proofs.Negatives.{negative_item}
use Rattle.fl_patches.proofs.block_widths.is_negative_at.Goals as goal

pub returns-then-is_less : goal.returns-then-is_less
returns-then-is_less g c = negative_item g.T.Number.value c.args.validity.now c.args.items.now c.args.i c.index-items-i.result true c.is_valid.result c.requires.covers c.requires.range c.index-items-i.is (rw c.zero.ensures at c.if-is_less.ensures) c.is_valid.ensures

pub returns-else-is_less : goal.returns-else-is_less
returns-else-is_less g c = c.if-is_less.false ∙ negative_item g.T.Number.value c.args.validity.now c.args.items.now c.args.i c.index-items-i.result false (is_valid_at c.args.validity.now c.args.i) c.requires.covers c.requires.range c.index-items-i.is (rw c.zero.ensures at c.if-is_less.ensures) refl
