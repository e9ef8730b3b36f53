use Rattle.std.proofs.Common.{◌∙◌, sym}
use Rattle.fl_file.proofs.SummaryLaws.{all_rise, falls_here, rises_on}
use Rattle.fl_file.proofs.summary.rise.Goals as goal

pub loop-i-preserved : goal.loop-i-preserved
loop-i-preserved g c =
    rises_on g.T.Number.value c.args.items.now c.loop-i.i c.index-items-i.result c.index-items-i-in-loop-i.result c.loop-i.auto.i c.loop-i-test.true c.index-items-i.is c.index-items-i-in-loop-i.is (sym c.is_less.ensures ∙ c.if-is_less.false) c.loop-i.invariant

pub returns-then-is_less : goal.returns-then-is_less
returns-then-is_less g c =
    sym (falls_here g.T.Number.value c.args.items.now c.loop-i.i c.index-items-i.result c.index-items-i-in-loop-i.result c.loop-i.auto.i c.loop-i-test.true c.index-items-i.is c.index-items-i-in-loop-i.is (sym c.is_less.ensures ∙ c.if-is_less.true))

pub returns : goal.returns
returns g c = sym (all_rise g.T.Number.value c.args.items.now c.loop-i.i c.loop-i-test.false c.loop-i.invariant)
