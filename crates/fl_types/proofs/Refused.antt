-- What a call that is refused answers.
use Rattle.std.proofs.Common.{◌≡◌, Ok, Err, IfOk, IfErr, IsErrAnd, ◌∙◌, inl, inr}
use Rattle.std.specs.Prelude.{Result}
use Rattle.fl_types.specs.declared.error.FastLanesError.{FastLanesError}
use Rattle.fl_types.specs.declared.error.FastLanesError.TheVariants.{OutOfMemory}
use Rattle.fl_types.specs.Refusals.{Answers, Refuses}
use Rattle.fl_types.proofs.RefusalLaws.{Refuses_cases}

-- nothing of a value
pub no_value : {X E : Type 0} (P : X → Type 0) (Q : E → Type 0) (r : Result X E) → IsErrAnd r Q → IfOk r P
no_value P Q (Ok x) h = absurd h
no_value P Q (Err e) h = tt

-- whatever is asked, where memory ran out
pub no_memory : {X Y : Type 0} (view : X → Y) (r : Result X FastLanesError) (m : Result Y FastLanesError) → IsErrAnd r (λ e. e ≡ OutOfMemory) → Answers view r m
no_memory view (Ok x) m h = absurd h
no_memory view (Err e) m h = rw h tt

-- the same, where a call said so
pub no_memory_there : {X Y : Type 0} (view : X → Y) (r : Result X FastLanesError) (m : Result Y FastLanesError) (e : FastLanesError) → IsErrAnd r (λ f. f ≡ e) → e ≡ OutOfMemory → Answers view r m
no_memory_there view (Ok x) m e h is = absurd h
no_memory_there view (Err f) m e h is = rw (h ∙ is) tt

-- that memory ran out, where a call said so
pub memory_there : {X : Type 0} (r : Result X FastLanesError) (e : FastLanesError) → IsErrAnd r (λ f. f ≡ e) → e ≡ OutOfMemory → IfErr r (λ f. f ≡ OutOfMemory)
memory_there (Ok x) e h is = absurd h
memory_there (Err f) e h is = h ∙ is

-- a call that the model has an answer for is refused for want of memory alone
pub only_memory : {Y : Type 0} (e : FastLanesError) (y : Y) → Refuses e (Ok y) → e ≡ OutOfMemory
only_memory e y h = elim (Refuses_cases e (Ok y) h) [
  | inl p ↦ p
  | inr q ↦ absurd cc
]
