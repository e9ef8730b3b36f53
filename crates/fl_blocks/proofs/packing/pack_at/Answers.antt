use Rattle.std.proofs.Common.{arith}
use Rattle.fl_blocks.proofs.Parts.{part_before}
use Rattle.fl_blocks.proofs.packing.pack_at.Goals as goal

pub returns-clause-before : goal.returns-clause-before
returns-clause-before g c from n h = let within = c.requires.within in part_before from n c.args.start c.args.packed.now _ h (omega arith)
