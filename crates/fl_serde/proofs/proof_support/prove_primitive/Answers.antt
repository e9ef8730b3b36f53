use Rattle.fl_serde.proofs.PlainAgain.{primitive_back}
use Rattle.fl_serde.proofs.proof_support.prove_primitive.Goals as goal

pub returns : goal.returns
returns c = record { reads = primitive_back c.args.array.now c.validity-validity.ensures.covers c.stored_integers_are_in_range.ensures.slots }
