use Rattle.fl_patches.proofs.BlockSigns.{value_more}
use Rattle.fl_patches.proofs.block_widths.has_negative_value.Goals as goal

pub loop-i-preserved : goal.loop-i-preserved
loop-i-preserved g c = value_more g.T.Number.value c.args.items.now c.loop-i.i c.index-items-i.result c.loop-i.found c.is_less-found.result c.loop-i-test.true c.index-items-i.is (rw c.zero.ensures at c.is_less-found.ensures) c.loop-i.invariant
