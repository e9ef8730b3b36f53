use Rattle.std.proofs.Common.{◌≡◌, ◌∙◌, Bool, Result, Ok, Err, IsTrue, ap, refl, rules, sym, true}
use Rattle.std.specs.Prelude.{IfErr, IsErrAnd}
use Rattle.fl_types.specs.declared.error.FastLanesError.{FastLanesError}
use Rattle.fl_types.specs.declared.error.FastLanesError.TheVariants.{OutOfMemory}
use Rattle.fl_types.specs.Refusals.{Answers, Refuses}
use Rattle.fl_column.proofs.NamedLaws.{passed_on}
use Rattle.fl_ops.specs.declared.queries.Answer.{Answer}
use Rattle.fl_ops.specs.Queries.{BoolReply, BoolsReply, Reply, ScalarReply, mapped, reply_of}
use Rattle.fl_ops.proofs.Truths.{first_true, second_true}
use Rattle.fl_ops.proofs.queries.ask.Goals as goal

-- what a part of the answer refuses the answer refuses
refused : {A : Type 0} (reply : A → Reply) (r : Result Answer FastLanesError) (m : Result A FastLanesError) (e : FastLanesError) → IsErrAnd r (λ f. f ≡ e) → Refuses e m → Answers reply_of r (mapped reply m)
refused reply r m e h so = passed_on reply_of r m (mapped reply m) e h so (λ (x : m ≡ Err e). ap (mapped reply) x)

-- the refusal is handed on, and with it where memory may be needed
needing : (r : Result Answer FastLanesError) (e : FastLanesError) (b : Bool) → IsErrAnd r (λ f. f ≡ e) → (e ≡ OutOfMemory → IsTrue b) → IfErr r (λ f. f ≡ OutOfMemory → IsTrue b)
needing (Ok x) e b h so = tt
needing (Err f) e b h so = λ (memory : f ≡ OutOfMemory). so (sym h ∙ memory)

pub returns-in_err-scalar_within-in-ScalarAt-clause-reply : goal.returns-in_err-scalar_within-in-ScalarAt-clause-reply
returns-in_err-scalar_within-in-ScalarAt-clause-reply c = rw c.in-ScalarAt.is (refused ScalarReply c.from_residual.result _ _ c.from_residual.ensures.1 c.in_err-scalar_within-in-ScalarAt.ensures.item)

pub returns-in_err-scalar_within-in-ScalarAt-clause-memory : goal.returns-in_err-scalar_within-in-ScalarAt-clause-memory
returns-in_err-scalar_within-in-ScalarAt-clause-memory c = rw c.in-ScalarAt.is (needing c.from_residual.result _ _ c.from_residual.ensures.1 c.in_err-scalar_within-in-ScalarAt.ensures.memory)

pub returns-in_err-compare-in-Compare-clause-reply : goal.returns-in_err-compare-in-Compare-clause-reply
returns-in_err-compare-in-Compare-clause-reply c = rw c.in-Compare.is (refused BoolsReply c.from_residual-in_err-compare-in-Compare.result _ _ c.from_residual-in_err-compare-in-Compare.ensures.1 c.in_err-compare-in-Compare.ensures)

pub returns-in_err-compare-in-Compare-clause-memory : goal.returns-in_err-compare-in-Compare-clause-memory
returns-in_err-compare-in-Compare-clause-memory c = rw c.in-Compare.is (needing c.from_residual-in_err-compare-in-Compare.result _ true c.from_residual-in_err-compare-in-Compare.ensures.1 (λ x. refl))

pub between-requires-clause-lower : goal.between-requires-clause-lower
between-requires-clause-lower c = search (rules, first_true)

pub between-requires-clause-upper : goal.between-requires-clause-upper
between-requires-clause-upper c = search (rules, second_true)

pub returns-in_err-between-in-Between-clause-reply : goal.returns-in_err-between-in-Between-clause-reply
returns-in_err-between-in-Between-clause-reply c = rw c.in-Between.is (refused BoolsReply c.from_residual-in_err-between-in-Between.result _ _ c.from_residual-in_err-between-in-Between.ensures.1 c.in_err-between-in-Between.ensures)

pub returns-in_err-between-in-Between-clause-memory : goal.returns-in_err-between-in-Between-clause-memory
returns-in_err-between-in-Between-clause-memory c = rw c.in-Between.is (needing c.from_residual-in_err-between-in-Between.result _ true c.from_residual-in_err-between-in-Between.ensures.1 (λ x. refl))

pub returns-in_err-is_constant-in-IsConstant-clause-reply : goal.returns-in_err-is_constant-in-IsConstant-clause-reply
returns-in_err-is_constant-in-IsConstant-clause-reply c = rw c.in-IsConstant.is (refused BoolReply c.from_residual-in_err-is_constant-in-IsConstant.result _ _ c.from_residual-in_err-is_constant-in-IsConstant.ensures.1 c.in_err-is_constant-in-IsConstant.ensures)

pub returns-in_err-is_constant-in-IsConstant-clause-memory : goal.returns-in_err-is_constant-in-IsConstant-clause-memory
returns-in_err-is_constant-in-IsConstant-clause-memory c = rw c.in-IsConstant.is (needing c.from_residual-in_err-is_constant-in-IsConstant.result _ true c.from_residual-in_err-is_constant-in-IsConstant.ensures.1 (λ x. refl))

pub returns-in_err-is_sorted-in-IsSorted-clause-reply : goal.returns-in_err-is_sorted-in-IsSorted-clause-reply
returns-in_err-is_sorted-in-IsSorted-clause-reply c = rw c.in-IsSorted.is (refused BoolReply c.from_residual-in_err-is_sorted-in-IsSorted.result _ _ c.from_residual-in_err-is_sorted-in-IsSorted.ensures.1 c.in_err-is_sorted-in-IsSorted.ensures)

pub returns-in_err-is_sorted-in-IsSorted-clause-memory : goal.returns-in_err-is_sorted-in-IsSorted-clause-memory
returns-in_err-is_sorted-in-IsSorted-clause-memory c = rw c.in-IsSorted.is (needing c.from_residual-in_err-is_sorted-in-IsSorted.result _ true c.from_residual-in_err-is_sorted-in-IsSorted.ensures.1 (λ x. refl))

pub returns-in_ok-scalar_within-in-ScalarAt-clause-reply : goal.returns-in_ok-scalar_within-in-ScalarAt-clause-reply
returns-in_ok-scalar_within-in-ScalarAt-clause-reply c = rw c.in-ScalarAt.is (ap (mapped ScalarReply) c.in_ok-scalar_within-in-ScalarAt.ensures.item)

pub returns-in_ok-compare-in-Compare-clause-reply : goal.returns-in_ok-compare-in-Compare-clause-reply
returns-in_ok-compare-in-Compare-clause-reply c = rw c.in-Compare.is (ap (mapped BoolsReply) c.in_ok-compare-in-Compare.ensures)

pub returns-in_ok-between-in-Between-clause-reply : goal.returns-in_ok-between-in-Between-clause-reply
returns-in_ok-between-in-Between-clause-reply c = rw c.in-Between.is (ap (mapped BoolsReply) c.in_ok-between-in-Between.ensures)

pub returns-in_ok-is_constant-in-IsConstant-clause-reply : goal.returns-in_ok-is_constant-in-IsConstant-clause-reply
returns-in_ok-is_constant-in-IsConstant-clause-reply c = rw c.in-IsConstant.is (ap (mapped BoolReply) c.in_ok-is_constant-in-IsConstant.ensures)

pub returns-in_ok-is_sorted-in-IsSorted-clause-reply : goal.returns-in_ok-is_sorted-in-IsSorted-clause-reply
returns-in_ok-is_sorted-in-IsSorted-clause-reply c = rw c.in-IsSorted.is (ap (mapped BoolReply) c.in_ok-is_sorted-in-IsSorted.ensures)
