use Rattle.std.proofs.Common.{◌∙◌, refl, sym}
use Rattle.fl_array.specs.Trees.{column}
use Rattle.fl_ops.proofs.BlockLaws.{read_typed}
use Rattle.fl_ops.proofs.plain_ops.take_ranges.Goals as goal

pub read_ranges-requires-clause-typed : goal.read_ranges-requires-clause-typed
read_ranges-requires-clause-typed c = read_typed (column c.args.array.now) (column c.args.array.now) c.in-Primitive.ptype c.in-Primitive.field-1 refl (sym c.dtype.ensures ∙ c.in-Primitive.is)
