use Rattle.fl_bitpacking.proofs.RefusedNegatives.{refused_unless}
use Rattle.fl_bitpacking.proofs.bitpack_compress.patched_packing.pack_with_patches.Goals as goal

pub returns-clause-packed : goal.returns-clause-packed
returns-clause-packed c = rw c.in_ok-packed.ensures.ok c.in_ok-bytes.ensures.packed

pub returns-in_err-bytes-clause-refusal : goal.returns-in_err-bytes-clause-refusal
returns-in_err-bytes-clause-refusal c = refused_unless _ _ _ c.from_residual.result c.in_err-bytes.ensures.refusal c.from_residual.ensures.1
