use Rattle.std.proofs.Common.{ap, arith, length}
use Rattle.fl_types.specs.Values.{scalar_parts}
use Rattle.fl_array.specs.Trees.{Tree, column}
use Rattle.fl_array.proofs.RLELaws.{value_read}
use Rattle.fl_array.proofs.rle.RLEArray.value_place.Goals as goal

pub overflow_add-result : goal.overflow_add-result
overflow_add-result c =
    let len = c.len-len.ensures.len in
    let items = c.len-len.ensures.items in
    let range = c.requires.range in
    let count = c.len-count.ensures in
    let values = ap (λ (t : Tree). length (column t).items) c.values.ensures in
    let few = c.len-count.type_inv in
    let within = value_read c.args.self.now c.args.i (scalar_parts c.args.index) c.args.start c.number_of_scalar.result c.prove_well_formed.ensures (omega arith) c.requires.index c.requires.start c.number_of_scalar.ensures in
    omega arith

pub returns-clause-range : goal.returns-clause-range
returns-clause-range c =
    let len = c.len-len.ensures.len in
    let items = c.len-len.ensures.items in
    let range = c.requires.range in
    value_read c.args.self.now c.args.i (scalar_parts c.args.index) c.args.start c.number_of_scalar.result c.prove_well_formed.ensures (omega arith) c.requires.index c.requires.start c.number_of_scalar.ensures
