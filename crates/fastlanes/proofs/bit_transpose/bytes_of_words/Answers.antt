use Rattle.std.proofs.Common.{arith}
use Rattle.fastlanes.proofs.TransposedBits.{byte_bit}
use Rattle.fastlanes.proofs.bit_transpose.bytes_of_words.Goals as goal

pub returns-clause-bits : goal.returns-clause-bits
returns-clause-bits c i h = byte_bit c.loop-k.bytes c.args.words.now i c.prove_bytes_fit.ensures (λ k p. c.loop-k.invariant.put k (omega arith)) h
