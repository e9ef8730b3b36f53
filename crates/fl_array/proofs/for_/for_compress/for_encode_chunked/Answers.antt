use Rattle.std.proofs.Common.{◌≡◌, ap, length, ◌∙◌}
use Rattle.fl_column.specs.Columns.{column_of_primitive}
use Rattle.fl_codec.specs.Parts.{ByChunk, Nulls, Whole, for_parts, global_parts}
use Rattle.fl_types.specs.Values.{scalar_parts}
use Rattle.fl_array.specs.FoRArrays.{FoRArrayParts, tree_of_for}
use Rattle.fl_array.specs.Trees.{column}
use Rattle.fl_array.proofs.EncodedRLE.{ok_is}
use Rattle.fl_array.proofs.FoREncoding.{chunked_column, few_positions, made_accepted}
use Rattle.fl_array.proofs.RLELaws.{if_answered}
use Rattle.fl_array.proofs.for_.for_compress.for_encode_chunked.Goals as goal

pub from_global-requires : goal.from_global-requires
from_global-requires c =
    rw c.into_array.ensures
    (made_accepted c.args.order c.args.array.now (Whole (global_parts c.in-Global.field-0)) (ok_is _ _ c.in_ok-child.ensures ∙ ap for_parts c.in-Global.is) c.validity-validity.ensures.covers (few_positions (length c.args.array.now.slots) c.prove_few.ensures))

pub from_chunked-requires-clause-sound : goal.from_chunked-requires-clause-sound
from_chunked-requires-clause-sound c =
    rw (c.into_array-in-Chunked.ensures, c.into_array-in-Chunked-2.ensures)
    (made_accepted c.args.order c.args.array.now (ByChunk c.in-Chunked.child c.in-Chunked.references) (ok_is _ _ c.in_ok-child.ensures ∙ ap for_parts c.in-Chunked.is) c.validity-validity.ensures.covers (few_positions (length c.args.array.now.slots) c.prove_few.ensures))

pub from_global-requires-in-Nulls : goal.from_global-requires-in-Nulls
from_global-requires-in-Nulls c =
    rw c.into_array-in-Nulls.ensures
    (made_accepted c.args.order c.args.array.now (Nulls c.in-Nulls.child (scalar_parts c.in-Nulls.reference)) (ok_is _ _ c.in_ok-child.ensures ∙ ap for_parts c.in-Nulls.is) c.validity-validity.ensures.covers (few_positions (length c.args.array.now.slots) c.prove_few.ensures))

pub returns-in-Chunked-clause-column : goal.returns-in-Chunked-clause-column
returns-in-Chunked-clause-column c =
    if_answered (λ (a : FoRArrayParts). column (tree_of_for a) ≡ column_of_primitive c.args.array.now) c.from_chunked.result _ c.from_chunked.ensures
    (rw (c.into_array-in-Chunked.ensures, c.into_array-in-Chunked-2.ensures)
    (chunked_column c.args.order c.args.array.now c.in-Chunked.child c.in-Chunked.references (ok_is _ _ c.in_ok-child.ensures ∙ ap for_parts c.in-Chunked.is) c.chunked_for_by_and_back.ensures))
