-- A run of operations, one step at a time.
use Rattle.std.proofs.Common.{◌≡◌, ℕ, ◌+◌, ◌<◌, List, ◌∷◌, length, drop, get_or, map, refl, ap, sym, subst, ◌∙◌, add-one, drop-cons}
use Rattle.std.specs.Prelude.{Result, Ok, Err}
use Rattle.fl_column.specs.Columns.{Column}
use Rattle.fl_types.specs.declared.error.FastLanesError.{FastLanesError}
use Rattle.fl_types.specs.Refusals.{Refuses}
use Rattle.fl_types.proofs.RefusalLaws.{Refuses_map}
use Rattle.fl_ops.specs.declared.operations.Op.{Op}
use Rattle.fl_array.specs.Trees.{Tree}
use Rattle.fl_ops.specs.Operations.{Step, and_then, run_columns, step_column, step_of}
use Rattle.fl_ops.specs.Results.{IsMade, IsResult}

-- what is left to do from an operation on
abbrev pub steps_from : List Op → ℕ → List Step
steps_from ops i = map step_of (drop i ops)

-- the next operation, and then the rest
pub run_next : (c : Column) (ops : List Op) (i : ℕ) (d : Op) → i < length ops → run_columns c (steps_from ops i) ≡ and_then (step_column c (step_of (get_or ops i d))) (λ x. run_columns x (steps_from ops (i + 1)))
run_next c ops i d h = rw (add-one, drop-cons ops i d) refl

-- what the next operation refuses the run refuses
pub run_refuses : (e : FastLanesError) (c : Column) (ops : List Op) (i : ℕ) (op : Op) → i < length ops → op ≡ get_or ops i op → Refuses e (step_column c (step_of op)) → Refuses e (run_columns c (steps_from ops i))
run_refuses e c ops i op h at r =
    let refused : step_column c (step_of op) ≡ Err e → run_columns c (steps_from ops i) ≡ Err e =
    λ (s : step_column c (step_of op) ≡ Err e). run_next c ops i op h ∙ ap (λ (o : Op). and_then (step_column c (step_of o)) (λ x. run_columns x (steps_from ops (i + 1)))) (sym at) ∙ ap (λ (m : Result Column FastLanesError). and_then m (λ x. run_columns x (steps_from ops (i + 1)))) s in
    Refuses_map e (step_column c (step_of op)) (run_columns c (steps_from ops i)) refused r

-- what it makes the rest go on from
pub run_goes_on : (c d : Column) (ops : List Op) (i : ℕ) (op : Op) → i < length ops → op ≡ get_or ops i op → step_column c (step_of op) ≡ Ok d → run_columns d (steps_from ops (i + 1)) ≡ run_columns c (steps_from ops i)
run_goes_on c d ops i op h at s =
    sym (run_next c ops i op h ∙ ap (λ (o : Op). and_then (step_column c (step_of o)) (λ x. run_columns x (steps_from ops (i + 1)))) (sym at) ∙ ap (λ (m : Result Column FastLanesError). and_then m (λ x. run_columns x (steps_from ops (i + 1)))) s)

-- ---- arrays
-- the next operation's array, and then the rest
pub result_next : (t next last : Tree) (ops : List Op) (i : ℕ) (op : Op) → i < length ops → op ≡ get_or ops i op → IsMade (step_of op) t next → IsResult next (steps_from ops (i + 1)) last → IsResult t (steps_from ops i) last
result_next t next last ops i op h at made rest =
    let steps : steps_from ops i ≡ map step_of (get_or ops i op ∷ drop (i + 1) ops) = rw (add-one, drop-cons ops i op) refl in
    let whole : IsResult t (map step_of (op ∷ drop (i + 1) ops)) last = (next, (made, rest)) in
    subst (λ (s : List Step). IsResult t s last) (ap (λ (o : Op). map step_of (o ∷ drop (i + 1) ops)) at ∙ sym steps) whole

-- each array that what is left makes of the one so far is made by all of the first
abbrev pub LeadsOn : Tree → List Op → ℕ → Tree → List Op → Type 0
LeadsOn current rest i first ops = (last : Tree) → IsResult current (steps_from rest i) last → IsResult first (map step_of ops) last

pub leads_on : (current next first : Tree) (rest ops : List Op) (i : ℕ) (op : Op) → i < length rest → op ≡ get_or rest i op → IsMade (step_of op) current next → LeadsOn current rest i first ops → LeadsOn next rest (i + 1) first ops
leads_on current next first rest ops i op h at made so_far last result = so_far last (result_next current next last rest i op h at made result)

pub ruleset runs = (run_refuses, run_goes_on, leads_on)
