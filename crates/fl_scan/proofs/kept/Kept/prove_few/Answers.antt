use Rattle.std.proofs.Common.{ap, arith, length}
use Rattle.fl_column.specs.Columns.{Column}
use Rattle.fl_scan.proofs.KeptColumns.{marked_few}
use Rattle.fl_scan.proofs.kept.Kept.prove_few.Goals as goal

pub returns : goal.returns
returns c =
    let len = c.len-len.ensures in
    let few = marked_few c.self.inside.marks c.self.inside.reader.column c.self.invariant in
    let same = ap (λ (d : Column). length d.items) c.self.view_is in
    omega arith
