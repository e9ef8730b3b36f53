use Rattle.fl_bitpacking.proofs.bitpack_compress.pack_array.Goals as goal

pub returns-clause-packed : goal.returns-clause-packed
returns-clause-packed c = rw c.in_ok-packed.ensures.ok c.in_ok-bytes.ensures
