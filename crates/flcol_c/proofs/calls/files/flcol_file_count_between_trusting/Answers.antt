use Rattle.std.proofs.Common.{◌≡◌, of_z, rules, to_z, w32, ◌∙◌}
use Rattle.std.proofs.Common.{subst, ℕ}
use Rattle.std.specs.Prelude.{count_by}
use Rattle.fl_file.specs.declared.pruning.Test.{Test}
use Rattle.fl_file.specs.Pruning.{passes}
use Rattle.flcol_file.specs.Chunked.{valid_in}
use Rattle.flcol_c.specs.Feet.{test_between, word_fault}
use Rattle.flcol_c.specs.Records.{value_of}
use Rattle.flcol_c.specs.Statuses.{Gives}
use Rattle.flcol_c.proofs.CallLaws.{counted_found, counted_status, foot_status}
use Rattle.flcol_c.proofs.calls.files.flcol_file_count_between_trusting.Goals as goal

pub returns-clause-foot : goal.returns-clause-foot
returns-clause-foot c =
    let same : to_z w32 (of_z w32 c.write_answer.result) ≡ c.write_answer.result = search rules in
    foot_status c.args.bytes.now c.count_trusting.result c.write_answer.result _ same c.count_trusting.ensures.foot c.write_answer.ensures.status

pub returns-clause-status : goal.returns-clause-status
returns-clause-status c = λ columns held.
    let same : to_z w32 (of_z w32 c.write_answer.result) ≡ c.write_answer.result = search rules in
    let test = test_between (value_of c.args.lower.now, value_of c.args.upper.now) (c.args.lower_strict, c.args.upper_strict) in
    let is : c.test_between-test.result ≡ test = search rules in
    let given = subst (λ (t : Test). Gives (word_fault (count_by (passes t) (valid_in columns))) (λ k. k ≡ count_by (passes t) (valid_in columns)) c.count_trusting.result) is (c.count_trusting.ensures.counted columns held) in
    counted_status (count_by (passes test) (valid_in columns)) c.count_trusting.result c.write_answer.result _ same given c.write_answer.ensures.status

pub returns-clause-counted : goal.returns-clause-counted
returns-clause-counted c = λ columns held.
    let same : to_z w32 (of_z w32 c.write_answer.result) ≡ c.write_answer.result = search rules in
    let test = test_between (value_of c.args.lower.now, value_of c.args.upper.now) (c.args.lower_strict, c.args.upper_strict) in
    let is : c.test_between-test.result ≡ test = search rules in
    let given = subst (λ (t : Test). Gives (word_fault (count_by (passes t) (valid_in columns))) (λ k. k ≡ count_by (passes t) (valid_in columns)) c.count_trusting.result) is (c.count_trusting.ensures.counted columns held) in
    counted_found (count_by (passes test) (valid_in columns)) c.write_answer.new.out c.count_trusting.result c.write_answer.result _ same given c.write_answer.ensures.written
