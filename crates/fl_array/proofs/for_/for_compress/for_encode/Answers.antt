use Rattle.std.proofs.Common.{◌≡◌}
use Rattle.fl_column.specs.Columns.{column_of_primitive}
use Rattle.fl_codec.specs.Parts.{global_parts}
use Rattle.fl_array.specs.FoRArrays.{FoRArrayParts, tree_of_for}
use Rattle.fl_array.specs.Trees.{column}
use Rattle.fl_array.proofs.FoREncoding.{global_accepted}
use Rattle.fl_array.proofs.RLELaws.{if_answered}
use Rattle.fl_array.proofs.for_.for_compress.for_encode.Goals as goal

pub from_global-requires : goal.from_global-requires
from_global-requires c = rw c.into_array.ensures (global_accepted c.args.order c.args.array.now (global_parts c.in_ok-child.field-0) c.in_ok-child.ensures)

pub returns-clause-column : goal.returns-clause-column
returns-clause-column c =
    if_answered (λ (a : FoRArrayParts). column (tree_of_for a) ≡ column_of_primitive c.args.array.now) c.from_global.result _ c.from_global.ensures
    (rw c.into_array.ensures (c.global_for_by_and_back.ensures (global_parts c.in_ok-child.field-0) c.in_ok-child.ensures))
