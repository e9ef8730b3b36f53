-- said here, where the search finds it too: a body that breaks it is refused at once
use Rattle.std.proofs.Common.{rules}
use Rattle.fl_metadata.specs.WireReading.{payload_at}
use Rattle.fl_metadata.proofs.wire.payload.Goals as goal

pub returns-in_ok-held-in-5-clause-is : goal.returns-in_ok-held-in-5-clause-is
unfolding payload_at
returns-in_ok-held-in-5-clause-is c = search rules
