-- Arrays that are encoded as small as they get.
use Rattle.std.proofs.Common.{◌≡◌, None, Ok, ◌∙◌}
use Rattle.fl_column.specs.Columns.{PrimitiveParts, column_of_primitive}
use Rattle.fl_array.specs.Reads.{integer_column}
use Rattle.fl_array.specs.Trees.{Tree, column}
use Rattle.fl_compress.specs.Candidates.{candidates}
use Rattle.fl_compress.specs.declared.limits.Limits.{Limits}
use Rattle.fl_compress.specs.Smallest.{IsSmallest}
use Rattle.flcol_c.specs.Compressing.{IsCompressionWithin}
use Rattle.flcol_c.specs.Plain.{IsSimplestOf}
use Rattle.flcol_c.specs.Statuses.{Gives, refusal_in}

-- the smallest array of what was decoded
pub compressed : (limits : Limits) (t : Tree) (plain : PrimitiveParts) (smallest : Tree) → refusal_in (integer_column (column t)) ≡ None → IsSimplestOf (column t) plain → IsSmallest (candidates limits) plain smallest → column smallest ≡ column_of_primitive plain
    → Gives (refusal_in (integer_column (column t))) (IsCompressionWithin limits t) (Ok smallest)
compressed limits t plain smallest integers simplest chosen same = (integers, (plain, simplest, chosen, same ∙ simplest.0))
