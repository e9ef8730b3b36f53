use Rattle.fastlanes.proofs.proof_support.prove_bytes_fit.Goals as goal

pub returns : goal.returns
returns c i = (c.type_inv.bytes i).fits
