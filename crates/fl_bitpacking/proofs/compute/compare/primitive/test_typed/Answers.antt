use Rattle.std.proofs.Common.{length, map, sym, rules}
use Rattle.std.proofs.lemmas.List.{length-map}
use Rattle.std.proofs.lemmas.Result.{IfOk-weaker}
use Rattle.fl_column.proofs.QueryLaws.{tested_bits}
use Rattle.fl_bitpacking.specs.RangeTests.{passes}
use Rattle.fl_bitpacking.proofs.compute.compare.primitive.test_typed.Goals as goal

pub returns : goal.returns
returns g c =
    let value = g.T.Number.value in
    let items = c.as_slice-items.result.now in
    rw (← c.as_slice-items.ensures)
    (tested_bits (passes c.args.test.range) (map value items) (length items) c.from_fn.result (sym (length-map items value)) c.from_fn.ensures.len
    (IfOk-weaker c.from_fn.result _ _ (λ b h i k. let e = h i k in search rules) c.from_fn.ensures.bits) c.from_fn.ensures.memory)
