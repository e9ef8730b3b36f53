use Rattle.std.proofs.Common.{length, map, rules, sym}
use Rattle.std.proofs.lemmas.List.{length-map}
use Rattle.std.proofs.lemmas.Result.{IfOk-weaker}
use Rattle.fl_column.specs.Selections.{bit_named}
use Rattle.fl_column.proofs.QueryLaws.{tested_bits}
use Rattle.fl_column.proofs.selection.with_bits.take_bits_typed.Goals as goal

pub returns : goal.returns
returns g c =
    let value = g.I.Number.value in
    let indices = c.as_slice-indices.result.now in
    rw (← c.as_slice-indices.ensures)
    (tested_bits (bit_named c.args.bits.now) (map value indices) (length indices) c.from_fn.result (sym (length-map indices value)) c.from_fn.ensures.len
    (IfOk-weaker c.from_fn.result _ _ (λ b h i k. let e = h i k in search rules) c.from_fn.ensures.bits) c.from_fn.ensures.memory)
