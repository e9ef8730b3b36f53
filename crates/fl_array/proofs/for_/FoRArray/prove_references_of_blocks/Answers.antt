use Rattle.fl_array.proofs.PackedFoR.{references_enough, references_slots, references_sums, references_type}
use Rattle.fl_array.proofs.for_.FoRArray.prove_references_of_blocks.Goals as goal

pub returns-clause-typed : goal.returns-clause-typed
returns-clause-typed c =
    references_type c.args.self.now c.args.packed.now c.args.references.now c.args.plain.now c.prove_well_formed.ensures c.requires.same c.requires.packed c.requires.plain

pub returns-clause-sums : goal.returns-clause-sums
returns-clause-sums c =
    references_sums c.args.self.now c.args.packed.now c.args.references.now c.args.plain.now c.prove_well_formed.ensures c.requires.same c.requires.packed c.requires.offset c.requires.plain

pub returns-clause-enough : goal.returns-clause-enough
returns-clause-enough c =
    references_enough c.args.self.now c.args.packed.now c.args.references.now c.args.plain.now c.len-count.result c.prove_well_formed.ensures c.requires.same c.requires.packed c.requires.offset c.requires.plain c.len-count.ensures.slots c.len-count.ensures.items

pub returns-clause-same : goal.returns-clause-same
returns-clause-same c = references_slots c.args.self.now c.args.references.now c.args.plain.now c.prove_well_formed.ensures c.requires.same c.requires.plain
