use Rattle.fl_array.proofs.ToBlockedLaws.{over_references, still_no_constant}
use Rattle.fl_array.proofs.for_.FoRArray.over_blocked_chunked.Goals as goal

pub from_chunked-requires-clause-sound : goal.from_chunked-requires-clause-sound
from_chunked-requires-clause-sound c =
    rw c.offset.ensures (over_references c.args.self.now c.args.references.now c.args.encoded c.args.blocked c.prove_well_formed.ensures c.requires.same c.requires.encoded c.requires.blocked)

pub from_chunked-requires-clause-chunked : goal.from_chunked-requires-clause-chunked
from_chunked-requires-clause-chunked c =
    still_no_constant c.args.self.now c.args.references.now c.args.blocked _ c.prove_no_constant.ensures c.requires.same c.requires.blocked
