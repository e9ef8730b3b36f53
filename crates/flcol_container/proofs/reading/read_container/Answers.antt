use Rattle.std.proofs.Common.{subst}
use Rattle.fl_metadata.specs.WrittenText.{AreBytes}
use Rattle.flcol_container.proofs.Sound.{are_bytes, read_as}
use Rattle.flcol_container.proofs.reading.read_container.Goals as goal

pub returns : goal.returns
returns c = read_as c.args.bytes.now c.read_beginning.result (are_bytes c.args.bytes.now (subst AreBytes c.as_slice.ensures c.prove_bytes.ensures)) c.read_beginning.ensures
