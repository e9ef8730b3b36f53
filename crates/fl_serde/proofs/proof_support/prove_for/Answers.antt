use Rattle.fl_types.specs.Values.{scalar_parts}
use Rattle.fl_serde.proofs.BackLaws.{for_is_back}
use Rattle.fl_serde.proofs.proof_support.prove_for.Goals as goal

pub returns : goal.returns
returns c = for_is_back c.args.array.now.encoded c.args.array.now.references (scalar_parts c.args.reference.now) c.requires.same c.for_is_well_formed.ensures.accepted c.requires.encoded c.prove_scalar_fits.ensures c.written_is_read.ensures.scalar
