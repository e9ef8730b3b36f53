use Rattle.std.proofs.Common.{ap, arith, length, ◌/◌}
use Rattle.fl_array.specs.Trees.{Tree, column}
use Rattle.fl_array.proofs.RLELaws.{chunk_within}
use Rattle.fl_array.proofs.rle.RLEArray.chunk_positions.Goals as goal

pub overflow_add-result : goal.overflow_add-result
overflow_add-result c =
    let within = chunk_within c.args.self.now (c.args.position / 1024) c.prove_well_formed.ensures c.requires in
    let total = c.len-total.ensures in
    let indices = ap (λ (t : Tree). length (column t).items) c.indices.ensures in
    let few = c.len-total.type_inv in
    omega arith
