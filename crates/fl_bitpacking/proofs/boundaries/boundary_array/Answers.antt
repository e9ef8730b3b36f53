use Rattle.fl_bitpacking.proofs.Bounds.{boundaries_small}
use Rattle.fl_bitpacking.proofs.boundaries.boundary_array.Goals as goal

pub index_array-requires : goal.index_array-requires
index_array-requires c = rw c.in_ok-boundaries.ensures (boundaries_small c.args.widths.now c.args.size c.requires)
