use Rattle.fl_serde.proofs.PlainAgain.{bool_back}
use Rattle.fl_serde.proofs.proof_support.prove_bools.Goals as goal

pub returns : goal.returns
returns c = record { reads = bool_back c.args.array.now c.validity-validity.ensures.covers }
