use Rattle.std.proofs.Common.{rules, ◌≡◌, true, length}
use Rattle.fl_types.specs.Masks.{mask_len}
use Rattle.fl_types.specs.Types.{has_ptype}
use Rattle.fl_types.specs.Values.{scalar_parts}
use Rattle.fl_column.specs.Queries.{holds}
use Rattle.fl_array.specs.Trees.{column}
use Rattle.fl_scan.specs.Constants.{integer_in}
use Rattle.flcol_c.proofs.PassingLaws.{passed_long}
use Rattle.flcol_c.proofs.passing.compared.Goals as goal

pub returns-clause-long : goal.returns-clause-long
returns-clause-long g c =
    let here = column c.args.array.now in
    let ptype = g.T.NativePType.PTYPE in
    let typed : has_ptype ptype here.dtype ≡ true = search rules in
    let long : mask_len c.args.mask.now ≡ length here.items = c.requires.long in
    passed_long c.args.mask.now (holds c.args.operator (integer_in (scalar_parts c.scalar_of.result))) here ptype c.compare_under.result typed long c.compare_under.ensures
