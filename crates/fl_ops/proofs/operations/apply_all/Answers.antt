use Rattle.std.proofs.Common.{◌≡◌, ◌∙◌, List, [], ◌∷◌, Result, Ok, Err, ap, length, map, refl, rules, subst, sym}
use Rattle.std.specs.Prelude.{IsErrAnd}
use Rattle.std.proofs.lemmas.List.{drop_all}
use Rattle.fl_types.specs.declared.error.FastLanesError.{FastLanesError}
use Rattle.fl_types.specs.Refusals.{Answers, Refuses}
use Rattle.fl_types.proofs.RefusalLaws.{Refuses_map}
use Rattle.fl_column.specs.Columns.{Column}
use Rattle.fl_column.proofs.NamedLaws.{passed_on}
use Rattle.fl_array.specs.Trees.{Tree, column}
use Rattle.fl_ops.specs.declared.operations.Op.{Op}
use Rattle.fl_ops.specs.Operations.{and_then, run_columns, step_column, step_of}
use Rattle.fl_ops.specs.Results.{IsMade, IsResult}
use Rattle.fl_ops.proofs.Runs.{LeadsOn, leads_on, run_goes_on, runs, steps_from}
use Rattle.fl_ops.proofs.operations.apply_all.Goals as goal

-- a copy has the column that no operations leave
copied : (r : Result Tree FastLanesError) (t : Tree) (ops : List Op) → length ops ≡ 0 → Answers (λ a. a) r (Ok t) → Answers column r (run_columns (column t) (map step_of ops))
copied (Ok a) t [] none same = cc
copied (Err e) t [] none same = Refuses_map e (Ok t) (Ok (column t)) (λ (made : Ok t ≡ Err e). absurd cc) same
copied r t (op ∷ ops) none same = absurd cc

-- what the first operation refuses all refuse
refused_first : (r : Result Tree FastLanesError) (e : FastLanesError) (c : Column) (op : Op) (rest ops : List Op) → ops ≡ op ∷ rest → IsErrAnd r (λ f. f ≡ e) → Refuses e (step_column c (step_of op)) → Answers column r (run_columns c (map step_of ops))
refused_first r e c op rest ops split h refused =
    rw split (passed_on column r (step_column c (step_of op)) _ e h refused (λ (s : step_column c (step_of op) ≡ Err e). ap (λ (m : Result Column FastLanesError). and_then m (λ d. run_columns d (map step_of rest))) s))

-- the rest goes on from what the first operation made
started : (t next : Tree) (op : Op) (rest ops : List Op) → ops ≡ op ∷ rest → step_column (column t) (step_of op) ≡ Ok (column next) → IsMade (step_of op) t next
    → (run_columns (column next) (steps_from rest 0) ≡ run_columns (column t) (map step_of ops)) × LeadsOn next rest 0 t ops
started t next op rest ops split step made = (rw (split, step) refl, λ last result. rw split (next, (made, result)))

some_first : (op : Op) (rest ops : List Op) → ops ≡ op ∷ rest → ops ≡ [] → ⊥
some_first op rest ops split none = cc

pub returns-in_default-clause-column : goal.returns-in_default-clause-column
returns-in_default-clause-column c = copied c.try_clone.result c.args.array.now c.args.ops.now c.in_default.ensures.cases c.try_clone.ensures

pub returns-in_err-current-clause-column : goal.returns-in_err-current-clause-column
returns-in_err-current-clause-column c =
    let split : c.args.ops.now ≡ c.in-Some.first.now ∷ c.in-Some.rest.now = c.in-Some.ensures.cases.0 in
    refused_first c.from_residual.result c.in_err-current.field-0.0 (column c.args.array.now) c.in-Some.first.now c.in-Some.rest.now c.args.ops.now split c.from_residual.ensures.1 c.in_err-current.ensures.column

pub returns-in_err-current-clause-copy : goal.returns-in_err-current-clause-copy
returns-in_err-current-clause-copy c = λ none. absurd (some_first c.in-Some.first.now c.in-Some.rest.now c.args.ops.now c.in-Some.ensures.cases.0 none)

pub loop-op-init : goal.loop-op-init
loop-op-init c =
    let split : c.args.ops.now ≡ c.in-Some.first.now ∷ c.in-Some.rest.now = c.in-Some.ensures.cases.0 in
    started c.args.array.now c.in_ok-current.current c.in-Some.first.now c.in-Some.rest.now c.args.ops.now split c.in_ok-current.ensures.column c.in_ok-current.ensures.tree

pub returns-in_err-current-2-clause-column : goal.returns-in_err-current-2-clause-column
returns-in_err-current-2-clause-column c = search (rules, runs)

pub returns-in_err-current-2-clause-copy : goal.returns-in_err-current-2-clause-copy
returns-in_err-current-2-clause-copy c = λ none. absurd (some_first c.in-Some.first.now c.in-Some.rest.now c.args.ops.now c.in-Some.ensures.cases.0 none)

pub loop-op-preserved : goal.loop-op-preserved
loop-op-preserved c =
    let current = c.loop-op.current in
    let next = c.in_ok-current-2.current in
    let rest = c.in-Some.rest.now in
    let i = c.loop-op.op-index in
    let op = c.op-item.result in (
      run_goes_on (column current) (column next) rest i op c.loop-op-test.true c.op-item.is c.in_ok-current-2.ensures.column ∙ c.loop-op.invariant.0,
      leads_on current next c.args.array.now rest c.args.ops.now i op c.loop-op-test.true c.op-item.is c.in_ok-current-2.ensures.tree c.loop-op.invariant.1,
    )

pub returns-clause-column : goal.returns-clause-column
returns-clause-column c = sym c.loop-op.invariant.0 ∙ ap (λ (ops : List Op). run_columns (column c.loop-op.current) (map step_of ops)) (drop_all c.loop-op.op-index c.in-Some.rest.now c.loop-op-test.false)

pub returns-clause-tree : goal.returns-clause-tree
returns-clause-tree c =
    let current = c.loop-op.current in
    c.loop-op.invariant.1 current (subst (λ (ops : List Op). IsResult current (map step_of ops) current) (sym (drop_all c.loop-op.op-index c.in-Some.rest.now c.loop-op-test.false)) refl)

pub returns-clause-copy : goal.returns-clause-copy
returns-clause-copy c = λ none. absurd (some_first c.in-Some.first.now c.in-Some.rest.now c.args.ops.now c.in-Some.ensures.cases.0 none)
