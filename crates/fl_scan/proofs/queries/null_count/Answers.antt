use Rattle.std.proofs.Common.{◌∙◌, ap}
use Rattle.std.specs.Prelude.{Ok}
use Rattle.fl_array.specs.Trees.{column}
use Rattle.fl_scan.proofs.NullLaws.{each_null, none_null, unset_null}
use Rattle.fl_scan.proofs.queries.null_count.Goals as goal

pub returns-in-NonNullable : goal.returns-in-NonNullable
returns-in-NonNullable c = ap (λ n. Ok n) (none_null c.in_ok-validity.field-0 (column c.args.array.now) c.in_ok-validity.ensures.validity c.in-NonNullable.is)

pub returns-in-AllInvalid : goal.returns-in-AllInvalid
returns-in-AllInvalid c = let len = c.len-len.ensures in ap (λ n. Ok n) (each_null c.in_ok-validity.field-0 (column c.args.array.now) c.in_ok-validity.ensures.validity c.in-AllInvalid.is ∙ (let n = c.len-len.ensures in cc))

pub returns-in-Array : goal.returns-in-Array
returns-in-Array c =
    let nulls = unset_null c.in_ok-validity.field-0 c.in-Array.bits (column c.args.array.now) c.in_ok-validity.ensures.validity c.in-Array.is in
    let len = c.len-len.ensures in
    let set = c.count_true.ensures in
    ap (λ n. Ok n) (nulls ∙ cc)
