use Rattle.fl_types.specs.Validities.{nullability_of}
use Rattle.fl_column.specs.Columns.{bools}
use Rattle.flcol_engine.proofs.AnswerLemmas.{bool_printed}
use Rattle.flcol_engine.proofs.printing.print_bools.Goals as goal

pub loop-i-preserved : goal.loop-i-preserved
loop-i-preserved c =
    let line = c.bool_line.ensures (nullability_of c.args.array.now.validity) in
    rw c.in_ok-extend_from_slice.ensures.items (bool_printed (nullability_of c.args.array.now.validity) (bools c.args.array.now) c.loop-i.i c.len-i-end.result c.loop-i.text.items c.bool_line.result.now c.loop-i-test.true c.len-i-end.ensures.items c.loop-i.invariant (rw (← c.get.ensures) line))
