use Rattle.std.proofs.Common.{ap}
use Rattle.fl_column.specs.Columns.{Column}
use Rattle.fl_array.proofs.ToBlockedLaws.{blocked_child}
use Rattle.fl_array.proofs.for_.FoRArray.over_blocked.Goals as goal

pub with_encoded-requires-clause-typed : goal.with_encoded-requires-clause-typed
with_encoded-requires-clause-typed c = ap (λ (x : Column). x.dtype) (blocked_child c.args.self.now.encoded c.args.encoded c.requires.encoded)
