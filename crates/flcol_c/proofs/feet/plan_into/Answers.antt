use Rattle.std.proofs.Common.{◌≡◌, ap, length, sym, ◌∙◌}
use Rattle.fl_file.specs.FileReading.{foot_of_file}
use Rattle.flcol_c.proofs.FeetLaws.{chunks_refused, fault_given, plan_long}
use Rattle.flcol_c.proofs.feet.plan_into.Goals as goal

pub returns-in_err-foot-clause-planned : goal.returns-in_err-foot-clause-planned
returns-in_err-foot-clause-planned c =
    fault_given _ _ c.from_residual.result c.in_err-foot.field-0.0 c.from_residual.ensures.1 (λ other. chunks_refused (length c.args.numbers.now) (foot_of_file c.args.bytes.now) c.in_err-foot.field-0.0 (c.in_err-foot.ensures other))

pub write_plan-requires : goal.write_plan-requires
write_plan-requires c =
    let long = plan_long c.args.test.now c.deref.result.now c.in_ok-plan.plan.items c.in_ok-plan.ensures in
    let test = c.if-numbers-len.false in
    let len = c.len.ensures in
    let from = ap length c.deref.ensures.value in
    let to = ap length c.deref-2.ensures.value in
    cc
