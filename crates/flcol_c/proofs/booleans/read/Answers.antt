use Rattle.std.proofs.Common.{rules, ◌≡◌, true, None, refl}
use Rattle.fl_types.specs.Types.{is_integer}
use Rattle.fl_array.specs.Reads.{bools_in}
use Rattle.fl_array.specs.Trees.{column}
use Rattle.flcol_c.proofs.BooleanLaws.{integers_else}
use Rattle.flcol_c.proofs.booleans.read.Goals as goal

pub returns-in_default-clause-fault : goal.returns-in_default-clause-fault
returns-in_default-clause-fault c =
    let none : bools_in c.args.array.now ≡ None = search rules in
    let integers : is_integer (column c.args.array.now).dtype ≡ true = integers_else c.args.array.now c.array_is_well_formed.ensures none in
    rw integers refl
