use Rattle.std.proofs.Common.{◌≤◌, ◌*◌, arith}
use Rattle.fl_bitpacking.proofs.Natives.{few_words}
use Rattle.fl_bitpacking.proofs.bitpack_compress.word_packing.bitpack_primitive.Goals as goal

pub overflow_mul-size : goal.overflow_mul-size
overflow_mul-size g c =
    let bits = g.met.T.PhysicalPType.width_law in
    let narrow = c.requires in
    let named = c.from-width.ensures in
    let few : c.from-width.result * c.LANES.result ≤ 1024 = rw c.LANES.ensures (few_words g.T.Physical.FastLanes.T g.T.Physical.FastLanes.LANES c.from-width.result g.met.T.Physical.FastLanes.shape (omega arith)) in
    omega arith

pub pack_words-requires-clause-width : goal.pack_words-requires-clause-width
pack_words-requires-clause-width g c =
    let bits = g.met.T.PhysicalPType.width_law in
    let narrow = c.requires in
    let named = c.from-width.ensures in
    omega arith
