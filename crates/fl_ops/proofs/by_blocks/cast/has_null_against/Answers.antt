use Rattle.std.proofs.Common.{◌∙◌, ap}
use Rattle.fl_column.specs.Selections.{any_null}
use Rattle.fl_array.specs.Trees.{column}
use Rattle.fl_ops.proofs.CastReads.{any_null_of}
use Rattle.fl_ops.proofs.by_blocks.cast.has_null_against.Goals as goal

pub returns-in-NonNullable : goal.returns-in-NonNullable
returns-in-NonNullable c = rw c.in-NonNullable.is (c.has_null.ensures ∙ (ap (any_null c.args.validity.now) c.len.ensures ∙ any_null_of c.args.validity.now (column c.args.array.now) c.requires))
