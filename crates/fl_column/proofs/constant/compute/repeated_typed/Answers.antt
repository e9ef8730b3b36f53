use Rattle.std.proofs.Common.{◌≡◌, replicate, arith, ap, sym, ◌∙◌, map}
use Rattle.fl_column.proofs.GatherLaws.{repeated_more}
use Rattle.fl_types.proofs.Refused.{no_value}
use Rattle.fl_column.proofs.constant.compute.repeated_typed.Goals as goal

pub unwrap-value-requires : goal.unwrap-value-requires
unwrap-value-requires g c = c.from_pvalue.ensures.typed.1 c.requires

pub returns-in_err-items-clause-typed : goal.returns-in_err-items-clause-typed
returns-in_err-items-clause-typed g c = no_value _ _ c.from_residual.result c.from_residual.ensures.1

pub returns-in_err-items-clause-slots : goal.returns-in_err-items-clause-slots
returns-in_err-items-clause-slots g c = no_value _ _ c.from_residual.result c.from_residual.ensures.1

pub loop-i-preserved : goal.loop-i-preserved
loop-i-preserved g c = repeated_more g.T.Number.value c.loop-i.items.items c.push.new.self.items c.unwrap-value.result c.loop-i._i c.in_ok-push.ensures.items c.loop-i.invariant

pub returns-in_err-push-clause-typed : goal.returns-in_err-push-clause-typed
returns-in_err-push-clause-typed g c = no_value _ _ c.from_residual-in_err-push.result c.from_residual-in_err-push.ensures.1

pub returns-in_err-push-clause-slots : goal.returns-in_err-push-clause-slots
returns-in_err-push-clause-slots g c = no_value _ _ c.from_residual-in_err-push.result c.from_residual-in_err-push.ensures.1

pub returns-clause-typed : goal.returns-clause-typed
returns-clause-typed g c = c.into_buffer.ensures.typed ∙ sym c.requires

pub returns-clause-slots : goal.returns-clause-slots
returns-clause-slots g c =
    let all : c.loop-i._i ≡ c.args.len = omega arith in
    let same = rw c.unwrap-value.ensures at c.from_pvalue.ensures.value in
    rw (c.into_buffer.ensures.slots, c.loop-i.invariant, all) (ap (replicate c.args.len) same)

pub loop-i-init : goal.loop-i-init
loop-i-init g c = ap (map g.T.Number.value) c.in_ok-items.ensures.items
