use Rattle.std.proofs.Common.{length}
use Rattle.fl_types.specs.Integers.{bits_of_type}
use Rattle.fl_column.specs.Chunks.{chunk_count}
use Rattle.fl_bitpacking.proofs.Bounds.{boundaries_joined, boundaries_within}
use Rattle.fl_bitpacking.proofs.bitpack_compress.bitpack_blocked_unchecked.Goals as goal

pub pack_array-requires-clause-within : goal.pack_array-requires-clause-within
pack_array-requires-clause-within c =
    rw c.in-Some.ensures.1 (boundaries_within (bits_of_type c.args.array.now.ptype) c.args.widths.now (chunk_count (length c.args.array.now.slots)) c.requires.count c.requires.narrow)

pub pack_array-requires-clause-joined : goal.pack_array-requires-clause-joined
pack_array-requires-clause-joined c = rw c.in-Some.ensures.1 (boundaries_joined c.args.widths.now (chunk_count (length c.args.array.now.slots)) c.requires.count)
