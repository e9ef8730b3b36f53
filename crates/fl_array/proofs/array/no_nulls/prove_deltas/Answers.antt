use Rattle.fl_array.proofs.NoNulls.{delta_has_no_nulls}
use Rattle.fl_array.proofs.array.no_nulls.prove_deltas.Goals as goal

pub returns : goal.returns
returns c = delta_has_no_nulls c.args.array.now c.prove_well_formed.ensures
