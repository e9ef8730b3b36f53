use Rattle.fl_array.specs.FoRArrays.{offset_of_references}
use Rattle.fl_serde.proofs.BackLaws.{for_chunked_is_back}
use Rattle.fl_serde.proofs.proof_support.prove_for_chunked.Goals as goal

pub returns : goal.returns
returns c = for_chunked_is_back c.args.array.now.encoded c.args.array.now.references c.args.references.now (offset_of_references c.args.array.now.references) c.requires.same c.for_is_well_formed.ensures.accepted c.for_is_well_formed.ensures.no_constant c.requires.encoded c.requires.references c.written_is_read.ensures.for_chunked
