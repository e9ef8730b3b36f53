use Rattle.std.proofs.Common.{◌∙◌}
use Rattle.fl_column.proofs.CastLaws.{any_null_is}
use Rattle.fl_column.proofs.primitive.PrimitiveArray.has_null.Goals as goal

pub returns : goal.returns
returns c = let a = c.args.self.now in c.has_null.ensures ∙ (rw c.validity.ensures.value (any_null_is a.validity a.slots c.len.result c.len.ensures.slots c.validity.ensures.covers))
