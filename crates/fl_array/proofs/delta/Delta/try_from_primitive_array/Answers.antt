use Rattle.std.proofs.Common.{◌≡◌, sym, ◌∙◌}
use Rattle.fl_column.specs.Columns.{column_of_primitive}
use Rattle.fl_array.specs.DeltaArrays.{DeltaArrayParts, tree_of_delta}
use Rattle.fl_array.specs.Trees.{column}
use Rattle.fl_array.proofs.DeltaEncoding.{encoded_accepted, encoded_back}
use Rattle.fl_array.proofs.EncodedRLE.{ok_is}
use Rattle.fl_array.proofs.RLELaws.{if_answered}
use Rattle.fl_array.proofs.delta.Delta.try_from_primitive_array.Goals as goal

pub from_parts-requires : goal.from_parts-requires
from_parts-requires c =
    rw (c.into_array.ensures, c.into_array-2.ensures)
    (encoded_accepted c.args.array.now c.in_ok-bases.bases c.in_ok-bases.deltas c.in_ok-validity.validity c.len-len.result (ok_is _ _ c.in_ok-bases.ensures) (sym (ok_is _ _ c.in_ok-validity.ensures) ∙ c.validity.ensures.value) c.len-len.ensures.slots c.validity.ensures.covers)

pub returns-clause-column : goal.returns-clause-column
returns-clause-column c =
    if_answered (λ (a : DeltaArrayParts). column (tree_of_delta a) ≡ column_of_primitive c.args.array.now) c.from_parts.result _ c.from_parts.ensures
    (rw (c.into_array.ensures, c.into_array-2.ensures)
    (encoded_back c.args.array.now c.in_ok-bases.bases c.in_ok-bases.deltas c.in_ok-validity.validity c.len-len.result (ok_is _ _ c.in_ok-bases.ensures) (sym (ok_is _ _ c.in_ok-validity.ensures) ∙ c.validity.ensures.value) c.len-len.ensures.slots c.deltas_and_back.ensures))
