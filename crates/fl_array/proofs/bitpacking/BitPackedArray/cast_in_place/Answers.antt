use Rattle.fl_array.proofs.InPlace.{column_of_made, refusal_of_made}
use Rattle.fl_array.proofs.bitpacking.BitPackedArray.cast_in_place.Goals as goal

pub invariant_of-result : goal.invariant_of-result
invariant_of-result c = refusal_of_made c.args.nullability c.args.self.now c.args.width c.in_ok-parts.parts c.requires.same c.prove_well_formed.ensures (rw c.packed_data.ensures at c.in_ok-parts.ensures)

pub returns-clause-column : goal.returns-clause-column
returns-clause-column c = column_of_made c.args.nullability c.args.self.now c.args.width c.in_ok-parts.parts c.requires.same c.requires.nulls (rw c.packed_data.ensures at c.in_ok-parts.ensures)
