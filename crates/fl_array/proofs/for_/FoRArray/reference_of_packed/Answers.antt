use Rattle.fl_types.specs.Values.{scalar_parts}
use Rattle.fl_array.proofs.PackedFoR.{reference_sums, reference_type}
use Rattle.fl_array.proofs.for_.FoRArray.reference_of_packed.Goals as goal

pub returns-clause-typed : goal.returns-clause-typed
returns-clause-typed c =
    reference_type c.args.self.now c.args.packed.now (scalar_parts c.args.reference.now) c.in-Some.value c.prove_well_formed.ensures c.requires.same c.requires.packed c.in-Some.ensures.typed

pub returns-clause-sums : goal.returns-clause-sums
returns-clause-sums c =
    reference_sums c.args.self.now c.args.packed.now (scalar_parts c.args.reference.now) c.in-Some.value c.requires.same c.requires.packed c.in-Some.ensures.value
