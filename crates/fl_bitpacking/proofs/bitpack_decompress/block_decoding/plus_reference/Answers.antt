use Rattle.std.proofs.Common.{◌∙◌, map}
use Rattle.fl_bitpacking.proofs.BlockSums.{plus_some}
use Rattle.fl_bitpacking.proofs.bitpack_decompress.block_decoding.plus_reference.Goals as goal

pub returns-in-Some : goal.returns-in-Some
returns-in-Some g c =
    let value = g.T.Number.value in
    let here = rw c.in-Some.is at c.reference_of.ensures in
    c.plus.ensures ∙ plus_some g.T.NativePType.PTYPE (map value c.args.references.now) c.args.j (value c.in-Some.reference) (value c.args.value) here
