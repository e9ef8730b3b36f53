use Rattle.fl_column.proofs.GatherLaws.{range_more}
use Rattle.fl_types.proofs.Refused.{no_value, memory_there}
use Rattle.fl_column.proofs.selection.push_range.Goals as goal

pub loop-k-preserved : goal.loop-k-preserved
loop-k-preserved g c = range_more g.T.Number.value c.args.items.now c.args.validity.now c.args.start c.args.len c.loop-k.k _ _ _ _ c.requires.covers c.requires.range c.loop-k-test.true c.in_ok-push.ensures.items c.loop-k.invariant c.item_at.ensures

pub returns-in_err-push-clause-items : goal.returns-in_err-push-clause-items
returns-in_err-push-clause-items g c = no_value _ _ c.from_residual.result c.from_residual.ensures.1

pub returns-in_err-push-clause-memory : goal.returns-in_err-push-clause-memory
returns-in_err-push-clause-memory g c = memory_there c.from_residual.result _ c.from_residual.ensures.1 c.in_err-push.ensures.memory
