use Rattle.fl_array.proofs.RangeLaws.{constant_fits}
use Rattle.fl_array.proofs.array.ranges.prove_constant_in_range.Goals as goal

pub returns : goal.returns
returns c = constant_fits c.args.array.now.scalar.dtype c.args.array.now.scalar.value c.args.array.now.len c.prove_scalar_in_range.ensures
