use Rattle.fl_array.specs.Trees.{column}
use Rattle.flcol_engine.proofs.ConstantLemmas.{comparable}
use Rattle.flcol_engine.proofs.queries.constant_for.Goals as goal

pub returns-clause-comparable : goal.returns-clause-comparable
returns-clause-comparable c = comparable (column c.args.array.now) c.args.constant c.constant_of_type.result (rw (← c.dtype.ensures) c.constant_of_type.ensures)
