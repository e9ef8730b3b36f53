use Rattle.std.proofs.Common.{◌-◌, ◌*◌, ◌∙◌, arith, subst}
use Rattle.std.proofs.lemmas.Result.{err_from_is_err_and}
use Rattle.fl_file.specs.Foot.{foot_parts}
use Rattle.fl_file.specs.FileReading.{RefusesFrom, last_foot}
use Rattle.fl_file.proofs.CutAgain.{found_here, one_down, search_failed}
use Rattle.fl_file.proofs.reader.last_foot.Goals as goal

pub returns-in_err-foot-clause-foot : goal.returns-in_err-foot-clause-foot
returns-in_err-foot-clause-foot g c = λ bytes known within.
    let p = err_from_is_err_and c.from_residual.result c.from_residual.ensures.1 in
    let e = c.in_err-foot.field-0.0 in
    let end = 64 * (c.args.count - c.loop-i.i) in
    let found = c.in_err-foot.ensures.foot bytes (c.loop-i.invariant.contents ∙ known) (omega arith) in
    let failed = search_failed (g.R.ReadAt.can_fail c.loop-i.source) e foot_parts bytes end (last_foot bytes c.args.count) found in
    rw (p.1, p.2) (subst (λ fails. RefusesFrom fails c.in_err-foot.field-0.0 (last_foot bytes c.args.count)) c.loop-i.invariant.can_fail failed)

pub returns-in-Some-clause-foot : goal.returns-in-Some-clause-foot
returns-in-Some-clause-foot g c = λ bytes known within.
    let found = rw c.in-Some.is at (c.in_ok-foot.ensures.foot bytes (c.loop-i.invariant.contents ∙ known) (omega arith)) in
    found_here bytes c.args.count c.loop-i.i (foot_parts c.in-Some.foot) c.loop-i-test.true found (c.loop-i.invariant.searched bytes known within)

pub loop-i-preserved : goal.loop-i-preserved
loop-i-preserved g c = record {
  contents = c.in_ok-foot.ensures.contents ∙ c.loop-i.invariant.contents;
  can_fail = c.in_ok-foot.ensures.can_fail ∙ c.loop-i.invariant.can_fail;
  searched = λ bytes known within.
      let none = rw c.in-None.is at (c.in_ok-foot.ensures.foot bytes (c.loop-i.invariant.contents ∙ known) (omega arith)) in
      one_down bytes c.args.count c.loop-i.i c.loop-i-test.true none (c.loop-i.invariant.searched bytes known within);
}
