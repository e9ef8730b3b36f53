use Rattle.fl_array.proofs.ReadReferences.{references_of_array, references_summed}
use Rattle.fl_array.proofs.reader.preparing.prove_references.Goals as goal

pub returns-clause-chunks : goal.returns-clause-chunks
returns-clause-chunks c =
    references_of_array c.args.array.now c.args.references.now c.args.plain.now c.len-count.result c.prove_well_formed.ensures c.requires.same c.requires.plain c.len-count.ensures.slots c.len-count.ensures.items

pub returns-clause-sums : goal.returns-clause-sums
returns-clause-sums c = references_summed c.args.array.now c.args.references.now c.args.plain.now c.prove_well_formed.ensures c.requires.same c.requires.plain
