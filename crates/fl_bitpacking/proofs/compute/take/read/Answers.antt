use Rattle.std.proofs.Common.{sym}
use Rattle.fl_bitpacking.proofs.Natives.{value_at_read}
use Rattle.fl_bitpacking.proofs.compute.take.read.Goals as goal

pub returns : goal.returns
returns g c = sym (value_at_read g.T.Number.value c.args.items.now c.args.i c.index-items-i.result c.requires c.index-items-i.is)
