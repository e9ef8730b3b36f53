use Rattle.std.proofs.Common.{◌∙◌, ap, length}
use Rattle.fl_scan.specs.Raised.{raise}
use Rattle.fl_scan.proofs.FinalLaws.{raised_few}
use Rattle.fl_scan.proofs.folds.total.total_of_block.Goals as goal

pub joined-requires-clause-raised : goal.joined-requires-clause-raised
joined-requires-clause-raised g c = raised_few g.T.NativePType.PTYPE (length c.args.items.now) c.raise_of.result c.requires (c.raise_of.ensures ∙ ap raise c.PTYPE.ensures)
