use Rattle.std.proofs.Common.{◌≡◌, map, length, sym, rules}
use Rattle.std.proofs.lemmas.List.{length-map}
use Rattle.std.proofs.lemmas.Result.{IfOk-weaker}
use Rattle.fl_column.specs.Queries.{holds}
use Rattle.fl_types.specs.Values.{integer_of}
use Rattle.fl_column.proofs.QueryLaws.{tested_bits}
use Rattle.fl_column.proofs.compute.compare.compare_typed.Goals as goal

pub returns : goal.returns
returns g c =
    let value = g.T.Number.value in
    let items = c.as_slice-items.result.now in
    let constant : value c.unwrap-constant.result ≡ integer_of c.args.constant = rw c.unwrap-constant.ensures at c.from_pvalue.ensures.value in
    rw (← c.as_slice-items.ensures, ← constant)
    (tested_bits (holds c.args.operator (value c.unwrap-constant.result)) (map value items) (length items) c.from_fn.result (sym (length-map items value)) c.from_fn.ensures.len
    (IfOk-weaker c.from_fn.result _ _ (λ b h i k. let e = h i k in search rules) c.from_fn.ensures.bits) c.from_fn.ensures.memory)
