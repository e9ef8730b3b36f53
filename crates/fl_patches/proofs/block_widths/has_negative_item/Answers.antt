use Rattle.std.proofs.Common.{map, refl, sym, arith}
use Rattle.fl_types.specs.Validities.{items_of}
use Rattle.fl_patches.proofs.BlockSigns.{negative_in_block, none_more, none_of_all}
use Rattle.fl_patches.proofs.Gathers.{covered_values}
use Rattle.fl_patches.proofs.block_widths.has_negative_item.Goals as goal

pub loop-block-init : goal.loop-block-init
loop-block-init g c = refl

pub loop-block-preserved : goal.loop-block-preserved
loop-block-preserved g c = none_more (items_of c.args.validity.now (map g.T.Number.value c.args.items.now)) c.loop-block.block c.loop-block.invariant (sym c.if-has_negative_in_block.ensures)

pub returns-then-has_negative_in_block : goal.returns-then-has_negative_in_block
returns-then-has_negative_in_block g c = sym (negative_in_block (items_of c.args.validity.now (map g.T.Number.value c.args.items.now)) c.loop-block.block (sym c.if-has_negative_in_block.ensures))

pub returns : goal.returns
returns g c =
    let count = covered_values g.T.Number.value c.args.validity.now c.args.items.now c.requires in
    sym (none_of_all (items_of c.args.validity.now (map g.T.Number.value c.args.items.now)) c.loop-block.block (omega arith) c.loop-block.invariant)
