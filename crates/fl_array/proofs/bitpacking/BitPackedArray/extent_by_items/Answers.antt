use Rattle.fl_array.proofs.BlockedLaws.{block_read}
use Rattle.fl_array.proofs.bitpacking.BitPackedArray.extent_by_items.Goals as goal

pub between-requires-clause-first : goal.between-requires-clause-first
between-requires-clause-first c =
    (block_read c.args.self.now c.args.boundaries.now c.args.i _ _ _ _ _ _ c.prove_well_formed.ensures c.requires.same c.requires.range c.requires.first c.requires.start c.requires.end c.number_of_scalar-first.ensures c.number_of_scalar-start.ensures c.number_of_scalar-end.ensures).low

pub between-requires-clause-order : goal.between-requires-clause-order
between-requires-clause-order c =
    (block_read c.args.self.now c.args.boundaries.now c.args.i _ _ _ _ _ _ c.prove_well_formed.ensures c.requires.same c.requires.range c.requires.first c.requires.start c.requires.end c.number_of_scalar-first.ensures c.number_of_scalar-start.ensures c.number_of_scalar-end.ensures).order

pub returns : goal.returns
returns c =
    rw c.between.ensures (block_read c.args.self.now c.args.boundaries.now c.args.i _ _ _ _ _ _ c.prove_well_formed.ensures c.requires.same c.requires.range c.requires.first c.requires.start c.requires.end c.number_of_scalar-first.ensures c.number_of_scalar-start.ensures c.number_of_scalar-end.ensures).extent
