use Rattle.std.proofs.Common.{rules}
use Rattle.fl_bitpacking.proofs.NullLaws.{patches_cast_of}
use Rattle.fl_bitpacking.proofs.compute.cast.cast_some_patches.Goals as goal

pub new_unchecked-requires : goal.new_unchecked-requires
new_unchecked-requires c =
    rw (c.array_len-array_len.ensures, c.offset-offset.ensures)
    (patches_cast_of c.args.nullability c.args.patches.now c.in_ok-indices.indices c.in_ok-values.values c.in_ok-chunk_offsets.chunk_offsets c.indices.ensures.accepted (search rules) (search rules) (search rules))
