use Rattle.fl_types.specs.declared.validity.Validity.{Validity}
use Rattle.fl_array.specs.RLEArrays.{tree_of_rle}
use Rattle.fl_array.specs.Reads.{IsValidityOf}
use Rattle.fl_array.specs.Trees.{column}
use Rattle.fl_array.proofs.RLELaws.{if_answered, rle_validity}
use Rattle.fl_array.proofs.rle.RLEArray.column_validity.Goals as goal

pub returns-clause-validity : goal.returns-clause-validity
returns-clause-validity c =
    let a = c.args.self.now in
    if_answered (λ (v : Validity). IsValidityOf v (column (tree_of_rle a))) c.slice.result _ (rw (c.offset-offset.ensures, c.len-len.ensures.len) at c.slice.ensures) (rle_validity a c.args.indices c.prove_well_formed.ensures c.requires.indices)
