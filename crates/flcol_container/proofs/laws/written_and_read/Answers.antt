use Rattle.flcol_container.proofs.Sound.{same_again}
use Rattle.flcol_container.proofs.laws.written_and_read.Goals as goal

pub returns-clause-same : goal.returns-clause-same
returns-clause-same c = same_again c.in_ok-bytes.bytes c.in_ok-write_container.field-0.items c.args.array.now c.read_container.result c.in_ok-write_container.ensures c.in_ok-bytes.ensures.ok c.read_container.ensures
