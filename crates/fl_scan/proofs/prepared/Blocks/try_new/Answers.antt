use Rattle.std.proofs.Math.Path.{subst}
use Rattle.fl_column.specs.Columns.{Column}
use Rattle.fl_array.specs.Reads.{IsValidityOf}
use Rattle.fl_array.specs.Trees.{column}
use Rattle.fl_scan.proofs.SourceLaws.{read_is}
use Rattle.fl_scan.proofs.prepared.Blocks.try_new.Goals as goal

pub invariant_of-result : goal.invariant_of-result
invariant_of-result c =
    subst (λ (d : Column). IsValidityOf c.in_ok-validity.validity d) (read_is (column c.args.array.now) c.in_ok-reader.reader.column c.in_ok-reader.ensures) c.in_ok-validity.ensures.validity
