use Rattle.std.proofs.Common.{arith}
use Rattle.fl_serde.proofs.bit_bytes.prove_bytes.Goals as goal

pub returns : goal.returns
returns c k = omega (arith, c.type_inv.bytes k)
