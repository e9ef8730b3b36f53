use Rattle.std.proofs.Common.{get_or, sym, ◌∙◌}
use Rattle.fl_bitpacking.specs.Blocks.{blocks_of}
use Rattle.fl_bitpacking.specs.Parts.{parts_of}
use Rattle.fl_bitpacking.proofs.TakenColumns.{item_gone, item_there}
use Rattle.fl_bitpacking.proofs.compute.take.Taking.item.Goals as goal

pub returns-then-is_valid : goal.returns-then-is_valid
returns-then-is_valid g c =
    item_there (parts_of c.args.self.column) (blocks_of c.args.self.widths) (get_or c.args.self.positions.now c.args.k 0) (g.T.Number.value c.read.result) (sym c.if-is_valid.ensures) (c.read.ensures ∙ c.requires.slots.each c.args.k c.requires.range)

pub returns-else-is_valid : goal.returns-else-is_valid
returns-else-is_valid g c = item_gone (parts_of c.args.self.column) (blocks_of c.args.self.widths) (get_or c.args.self.positions.now c.args.k 0) (sym c.if-is_valid.ensures)
