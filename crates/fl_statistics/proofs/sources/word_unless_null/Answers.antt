use Rattle.std.proofs.Common.{ap, ◌∙◌}
use Rattle.fl_types.specs.Integers.{read_as}
use Rattle.fl_statistics.proofs.Slots.{zero_read}
use Rattle.fl_statistics.proofs.sources.word_unless_null.Goals as goal

pub returns-then-is_null : goal.returns-then-is_null
returns-then-is_null g c = rw c.if-is_null.true (ap (read_as g.T.NativePType.PTYPE) c.zero.ensures ∙ zero_read g.T.NativePType.PTYPE)
