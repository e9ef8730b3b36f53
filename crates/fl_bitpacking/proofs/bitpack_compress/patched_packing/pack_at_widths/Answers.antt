use Rattle.std.proofs.Common.{length}
use Rattle.fl_types.specs.Integers.{bits_of_type}
use Rattle.fl_column.specs.Chunks.{chunk_count}
use Rattle.fl_bitpacking.proofs.Bounds.{boundaries_joined, boundaries_within}
use Rattle.fl_bitpacking.proofs.RefusedNegatives.{answers_unless}
use Rattle.fl_bitpacking.proofs.bitpack_compress.patched_packing.pack_at_widths.Goals as goal

pub pack_with_patches-requires-clause-within : goal.pack_with_patches-requires-clause-within
pack_with_patches-requires-clause-within c =
    rw c.in-Some.ensures.1 (boundaries_within (bits_of_type c.args.array.now.ptype) c.args.widths.now (chunk_count (length c.args.array.now.slots)) c.requires.count c.requires.narrow)

pub pack_with_patches-requires-clause-joined : goal.pack_with_patches-requires-clause-joined
pack_with_patches-requires-clause-joined c = rw c.in-Some.ensures.1 (boundaries_joined c.args.widths.now (chunk_count (length c.args.array.now.slots)) c.requires.count)

pub returns-in_ok-packed-in-Some-clause-refusal : goal.returns-in_ok-packed-in-Some-clause-refusal
returns-in_ok-packed-in-Some-clause-refusal c = answers_unless _ _ _ c.in_ok-packed-in-Some.ensures.refusal
