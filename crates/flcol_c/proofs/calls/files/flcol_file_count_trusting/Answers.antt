use Rattle.std.proofs.Common.{◌≡◌, Ok, Result, of_z, pos, rules, subst, sym, to_z, w32, ◌∙◌}
use Rattle.std.specs.Prelude.{IfOk, count_by}
use Rattle.fl_file.specs.declared.pruning.Test.{Test}
use Rattle.fl_file.specs.Pruning.{passes}
use Rattle.flcol_file.specs.Chunked.{valid_in}
use Rattle.flcol_c.specs.declared.fault.Fault.{Fault}
use Rattle.flcol_c.specs.Feet.{test_said, word_fault}
use Rattle.flcol_c.specs.Records.{value_of}
use Rattle.flcol_c.specs.Statuses.{IsStatusOf}
use Rattle.flcol_c.proofs.CallLaws.{counted_found, counted_status, foot_status}
use Rattle.flcol_c.proofs.calls.files.flcol_file_count_trusting.Goals as goal

pub returns-in-Ok-clause-foot : goal.returns-in-Ok-clause-foot
returns-in-Ok-clause-foot c = λ _.
    let same : to_z w32 (of_z w32 c.write_answer.result) ≡ c.write_answer.result = search rules in
    foot_status c.args.bytes.now c.count_trusting.result c.write_answer.result _ same c.count_trusting.ensures.foot c.write_answer.ensures.status

pub returns-in-Ok-clause-status : goal.returns-in-Ok-clause-status
returns-in-Ok-clause-status c = λ columns held.
    let same : to_z w32 (of_z w32 c.write_answer.result) ≡ c.write_answer.result = search rules in
    let is : test_said c.args.operator (value_of c.args.constant.now) ≡ Ok c.in-Ok.test = search rules in
    subst (λ (r : Result Test Fault). IfOk r (λ test. IsStatusOf (word_fault (count_by (passes test) (valid_in columns))) (to_z w32 (of_z w32 c.write_answer.result)))) (sym is)
    (counted_status (count_by (passes c.in-Ok.test) (valid_in columns)) c.count_trusting.result c.write_answer.result _ same (c.count_trusting.ensures.counted columns held) c.write_answer.ensures.status)

pub returns-in-Ok-clause-counted : goal.returns-in-Ok-clause-counted
returns-in-Ok-clause-counted c = λ columns held zero.
    let same : to_z w32 (of_z w32 c.write_answer.result) ≡ c.write_answer.result = search rules in
    let is : test_said c.args.operator (value_of c.args.constant.now) ≡ Ok c.in-Ok.test = search rules in
    subst (λ (r : Result Test Fault). IfOk r (λ test. c.write_answer.new.out ≡ count_by (passes test) (valid_in columns))) (sym is)
    (counted_found (count_by (passes c.in-Ok.test) (valid_in columns)) c.write_answer.new.out c.count_trusting.result c.write_answer.result _ same (c.count_trusting.ensures.counted columns held) c.write_answer.ensures.written zero)
