use Rattle.fl_types.specs.Values.{scalar_parts}
use Rattle.fl_array.proofs.RLELaws.{start_read}
use Rattle.fl_array.proofs.rle.RLEArray.start_from.Goals as goal

pub overflow_sub-result : goal.overflow_sub-result
overflow_sub-result c =
    (start_read c.args.self.now c.args.chunk (scalar_parts c.args.first) (scalar_parts c.args.start) c.number_of_scalar-2.result c.number_of_scalar.result c.prove_well_formed.ensures c.requires.range c.requires.first c.requires.start c.number_of_scalar-2.ensures c.number_of_scalar.ensures).low

pub returns : goal.returns
returns c =
    (start_read c.args.self.now c.args.chunk (scalar_parts c.args.first) (scalar_parts c.args.start) c.number_of_scalar-2.result c.number_of_scalar.result c.prove_well_formed.ensures c.requires.range c.requires.first c.requires.start c.number_of_scalar-2.ensures c.number_of_scalar.ensures).place
