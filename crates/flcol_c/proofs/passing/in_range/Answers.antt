use Rattle.std.proofs.Common.{rules, ◌≡◌, true, length}
use Rattle.fl_types.specs.Masks.{mask_len}
use Rattle.fl_types.specs.Types.{has_ptype}
use Rattle.fl_types.specs.Values.{scalar_parts}
use Rattle.fl_column.specs.Queries.{is_between}
use Rattle.fl_array.specs.Trees.{column}
use Rattle.fl_scan.specs.Constants.{integer_in}
use Rattle.flcol_c.proofs.PassingLaws.{passed_long}
use Rattle.flcol_c.proofs.passing.in_range.Goals as goal

pub returns-clause-long : goal.returns-clause-long
returns-clause-long g c =
    let here = column c.args.array.now in
    let ptype = g.T.NativePType.PTYPE in
    let typed : has_ptype ptype here.dtype ≡ true = search rules in
    let long : mask_len c.args.mask.now ≡ length here.items = c.requires.long in
    let low = integer_in (scalar_parts c.scalar_of-lower.result) in
    let high = integer_in (scalar_parts c.scalar_of-upper.result) in
    passed_long c.args.mask.now (is_between c.args.options low high) here ptype c.between_under.result typed long c.between_under.ensures
