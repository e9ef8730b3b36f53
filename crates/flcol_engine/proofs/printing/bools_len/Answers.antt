use Rattle.std.proofs.Common.{◌≡◌, ◌+◌, ap, arith, length, refl, rules, take, ◌∙◌}
use Rattle.std.proofs.lemmas.List.{length-append}
use Rattle.fl_types.specs.Validities.{nullability_of}
use Rattle.fl_column.specs.Columns.{bools, column_of_bools}
use Rattle.flcol_engine.specs.Printing.{text_of_items}
use Rattle.flcol_engine.proofs.AnswerLemmas.{bool_printed}
use Rattle.flcol_engine.proofs.printing.bools_len.Goals as goal

pub loop-i-preserved : goal.loop-i-preserved
loop-i-preserved c =
    let line = c.bool_line.ensures (nullability_of c.args.array.now.validity) in
    let before = text_of_items (column_of_bools c.args.array.now).dtype (take c.loop-i.i (column_of_bools c.args.array.now).items) in
    let more = bool_printed (nullability_of c.args.array.now.validity) (bools c.args.array.now) c.loop-i.i c.len-i-end.result before c.bool_line.result.now c.loop-i-test.true c.len-i-end.ensures.items refl (rw (← c.get.ensures) line) in
    let sum : c.in_ok-total.total ≡ c.loop-i.total + length c.bool_line.result.now = search rules in
    let len = length-append before c.bool_line.result.now ∙ refl in
    let all = ap length more in
    omega (arith, sum, len, all, c.loop-i.invariant)
