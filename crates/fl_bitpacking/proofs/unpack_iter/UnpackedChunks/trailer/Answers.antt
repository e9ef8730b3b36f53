-- said here, where the search finds it too: a body that breaks it is refused at once
use Rattle.std.proofs.Common.{rules}
use Rattle.fl_bitpacking.proofs.unpack_iter.UnpackedChunks.trailer.Goals as goal

pub returns : goal.returns
returns g c = search rules
