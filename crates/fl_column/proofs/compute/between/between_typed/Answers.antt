use Rattle.std.proofs.Common.{◌≡◌, map, length, sym, rules}
use Rattle.std.proofs.lemmas.List.{length-map}
use Rattle.std.proofs.lemmas.Result.{IfOk-weaker}
use Rattle.fl_column.specs.Queries.{is_between}
use Rattle.fl_types.specs.Values.{integer_of}
use Rattle.fl_column.proofs.QueryLaws.{tested_bits}
use Rattle.fl_column.proofs.compute.between.between_typed.Goals as goal

pub returns : goal.returns
returns g c =
    let value = g.T.Number.value in
    let items = c.as_slice-items.result.now in
    let lower : value c.unwrap-lower.result ≡ integer_of c.args.lower = rw c.unwrap-lower.ensures at c.from_pvalue.ensures.value in
    let upper : value c.unwrap-upper.result ≡ integer_of c.args.upper = rw c.unwrap-upper.ensures at c.from_pvalue-2.ensures.value in
    rw (← c.as_slice-items.ensures, ← lower, ← upper)
    (tested_bits (is_between c.args.options (value c.unwrap-lower.result) (value c.unwrap-upper.result)) (map value items) (length items) c.from_fn.result (sym (length-map items value)) c.from_fn.ensures.len
    (IfOk-weaker c.from_fn.result _ _ (λ b h i k. let e = h i k in search rules) c.from_fn.ensures.bits) c.from_fn.ensures.memory)
