use Rattle.std.proofs.Common.{◌<◌, ◌^◌}
use Rattle.fl_column.proofs.SelectionLaws.{total_is, total_next, total_over}
use Rattle.fl_column.proofs.selection.total_len.Goals as goal

pub returns : goal.returns
returns c = total_is c.args.ranges.now c.loop-range.range-index c.loop-range.total c.loop-range-test.false c.loop-range.invariant.total c.loop-range.invariant.fits

pub loop-range-preserved : goal.loop-range-preserved
loop-range-preserved c = record {
  total = total_next c.args.ranges.now c.loop-range.range-index c.loop-range.total c.in_ok-total.total c.loop-range-test.true c.loop-range.invariant.total c.in_ok-total.ensures.1;
  fits = let few : c.in_ok-total.total < 2 ^ 64 = rw c.in_ok-total.ensures.1 c.in_ok-total.ensures.0 in few;
}

pub returns-in_err-total : goal.returns-in_err-total
returns-in_err-total c = total_over c.args.ranges.now c.loop-range.range-index c.loop-range.total c.from_residual.result c.loop-range-test.true c.loop-range.invariant.total c.in_err-total.ensures c.from_residual.ensures
