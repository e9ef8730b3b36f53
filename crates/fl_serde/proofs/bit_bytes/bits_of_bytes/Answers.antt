use Rattle.std.proofs.Common.{Ok, subst}
use Rattle.fl_types.specs.Refusals.{Answers}
use Rattle.fl_serde.proofs.LeafLaws.{bits_stored}
use Rattle.fl_serde.proofs.bit_bytes.bits_of_bytes.Goals as goal

pub returns : goal.returns
returns c = subst (λ bits. Answers (λ b. b) c.bits_of.result (Ok bits)) (bits_stored c.args.bytes.now c.args.len) c.bits_of.ensures
