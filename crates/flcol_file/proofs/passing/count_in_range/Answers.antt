use Rattle.std.proofs.Common.{Ok, ap, arith, refl, rules}
use Rattle.std.specs.Prelude.{FitsSigned}
use Rattle.std.specs.Int.{w128}
use Rattle.std.proofs.lemmas.Int.{to_z-of_z}
use Rattle.fl_array.specs.Trees.{column}
use Rattle.fl_scan.specs.Totals.{null_count_of}
use Rattle.flcol_file.proofs.PassingLaws.{ok_is, range_parts}
use Rattle.flcol_file.proofs.passing.count_in_range.Goals as goal

pub overflow_sub-result : goal.overflow_sub-result
overflow_sub-result c =
    let f : FitsSigned w128 c.args.range.first = search rules in
    let g : FitsSigned w128 c.args.range.last = search rules in
    let parts = range_parts c.args.range (column c.args.array.now).items c.if-not-range.false in
    let counted = rw (to_z-of_z w128 c.args.range.first f) at (rw (to_z-of_z w128 c.args.range.last g) at c.in_ok-within.ensures) in
    let within = ok_is _ c.in_ok-within.within _ refl counted in
    let nulls = ok_is (null_count_of (column c.args.array.now)) c.in_ok-valid.field-0 (Ok (null_count_of (column c.args.array.now))) refl c.in_ok-valid.ensures in
    let len = c.len.ensures in
    omega arith

pub returns : goal.returns
returns c =
    let f : FitsSigned w128 c.args.range.first = search rules in
    let g : FitsSigned w128 c.args.range.last = search rules in
    let parts = range_parts c.args.range (column c.args.array.now).items c.if-not-range.false in
    let counted = rw (to_z-of_z w128 c.args.range.first f) at (rw (to_z-of_z w128 c.args.range.last g) at c.in_ok-within.ensures) in
    let within = ok_is _ c.in_ok-within.within _ refl counted in
    let nulls = ok_is (null_count_of (column c.args.array.now)) c.in_ok-valid.field-0 (Ok (null_count_of (column c.args.array.now))) refl c.in_ok-valid.ensures in
    let len = c.len.ensures in
    ap (λ n. Ok n) (omega arith)
