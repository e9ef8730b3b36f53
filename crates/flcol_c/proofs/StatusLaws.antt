-- Statuses of calls.
use Rattle.std.proofs.Common.{inl, inr, ◌≡◌, ◌≢◌, ℤ, pos, Option, Some, None, Result, Ok, Err, IfOk, ap, ◌∙◌, sym, subst, refl}
use Rattle.std.specs.Prelude.{MatchResult}
use Rattle.std.specs.Result.{IsErrAnd}
use Rattle.fl_types.specs.declared.error.FastLanesError.{FastLanesError}
use Rattle.fl_types.specs.declared.error.FastLanesError.TheVariants.{OutOfMemory}
use Rattle.fl_types.specs.Refusals.{Refuses}
use Rattle.fl_types.proofs.RefusalLaws.{Refuses_cases}
use Rattle.fl_array.specs.Trees.{Tree}
use Rattle.flcol_c.specs.declared.fault.Fault.{Fault}
use Rattle.flcol_c.specs.declared.fault.Fault.TheVariants.{NoArray, Refused}
use Rattle.flcol_c.specs.Held.{IsStatusOn}
use Rattle.flcol_c.specs.Statuses.{Gives, GivesAfter, IsStatusAfter, IsStatusOf, fault_in, first_of, refusal_in, status_at, status_in, status_of}

-- a refusal that is not of memory is the model's
pub refused : {Y : Type 0} (e : FastLanesError) (model : Result Y FastLanesError) → Refuses e model → Refused e ≢ Refused OutOfMemory → refusal_in model ≡ Some (Refused e)
refused e model h other = elim (Refuses_cases e model h) [ inl memory ↦ absurd (other (ap Refused memory)) | inr same ↦ ap refusal_in same ]

-- the status of a result that was given says the first fault
pub status_given : {A : Type 0} (fault : Option Fault) (Is : A → Type 0) (r : Result A Fault) (s : ℤ) → Gives fault Is r → (s ≢ pos 1 → s ≡ status_in r) → IsStatusOf fault s
status_given fault Is (Ok x) s g e other = e other ∙ sym (ap status_at g.0)
status_given fault Is (Err f) s g e other =
    let memory : f ≢ Refused OutOfMemory = λ (is : f ≡ Refused OutOfMemory). other (e other ∙ ap status_of is) in
    e other ∙ sym (ap status_at (g memory))

no_fault : (fault : Fault) → ◌≡◌ {A = Option Fault} None (Some fault) → ⊥
no_fault fault e = cc

-- no fault is known before memory is asked for
pub gives_later : {A : Type 0} (before later : Option Fault) (Is : A → Type 0) (r : Result A Fault) → before ≡ None → Gives later Is r → GivesAfter before later Is r
gives_later None later Is r e g = (λ fault known. absurd (no_fault fault known), g)
gives_later (Some fault) later Is r e g = absurd (no_fault fault (sym e))

-- or one is
pub gives_first : {A : Type 0} (before later : Option Fault) (Is : A → Type 0) (fault : Fault) → before ≡ Some fault → GivesAfter before later Is (Err fault)
gives_first None later Is fault e = absurd (no_fault fault e)
gives_first (Some first) later Is fault e = (λ other known. sym e ∙ known, λ (_ : fault ≢ Refused OutOfMemory). e)

-- the status of a result that is kept
abbrev pub Told : {A : Type 0} → Result A Fault → ℤ → Type 0
Told r s = MatchResult r (λ _. s ≢ pos 1 → s ≡ pos 0) (λ fault. s ≡ status_of fault)

told : {A : Type 0} (r : Result A Fault) (s : ℤ) → Told r s → s ≢ pos 1 → s ≡ status_in r
told (Ok x) s t other = t other
told (Err fault) s t other = t

pub told_first : {A : Type 0} (r : Result A Fault) (s : ℤ) (fault : Fault) → Told r s → fault_in r ≡ Some fault → s ≡ status_of fault
told_first (Ok x) s fault t e = absurd (no_fault fault e)
told_first (Err other) s fault t e = t ∙ ap status_of (let same : other ≡ fault = cc in same)

told_by : {A : Type 0} (r : Result A Fault) (s : ℤ) → s ≡ status_in r → Told r s
told_by (Ok x) s e = λ (_ : s ≢ pos 1). e
told_by (Err fault) s e = e

-- the status of what was made or answered after faults that are known before
pub status_kept : {A : Type 0} (before later : Option Fault) (Is : A → Type 0) (r : Result A Fault) (s : ℤ) → GivesAfter before later Is r → Told r s → IsStatusAfter before later s
status_kept before later Is r s g t = (λ fault known. told_first r s fault t (g.0 fault known), status_given (first_of before later) Is r s g.1 (told r s t))

-- the same of a call on an array that is held
pub status_held : {A : Type 0} (before later : Tree → Option Fault) (Is : A → Type 0) (held : Option Tree) (t : Tree) (r : Result A Fault) (s : ℤ) → held ≡ Some t → GivesAfter (before t) (later t) Is r → Told r s → IsStatusOn before later held s
status_held before later Is held t r s e g told = subst (λ (h : Option Tree). IsStatusOn before later h s) (sym e) (status_kept (before t) (later t) Is r s g told)

-- and of one that has no fault before
pub status_held_later : {A : Type 0} (later : Tree → Option Fault) (Is : A → Type 0) (held : Option Tree) (t : Tree) (r : Result A Fault) (s : ℤ) → held ≡ Some t → Gives (later t) Is r → Told r s → IsStatusOn (λ (_ : Tree). None) later held s
status_held_later later Is held t r s e g told = status_held (λ (_ : Tree). None) later Is held t r s e (gives_later None (later t) Is r refl g) told

-- no array is held
pub status_unheld : (before later : Tree → Option Fault) (held : Option Tree) (s : ℤ) → held ≡ None → s ≡ status_of NoArray → IsStatusOn before later held s
status_unheld before later held s e is = subst (λ (h : Option Tree). IsStatusOn before later h s) (sym e) (λ fault known. is ∙ ap status_of (let same : NoArray ≡ fault = cc in same), λ (_ : s ≢ pos 1). is)

-- a result whose fault is the first one
pub gives_by_fault : {A : Type 0} (fault : Option Fault) (Is : A → Type 0) (r : Result A Fault) → fault_in r ≡ fault → IfOk r Is → Gives fault Is r
gives_by_fault fault Is (Ok x) e is = (sym e, is)
gives_by_fault fault Is (Err other) e is = λ (_ : other ≢ Refused OutOfMemory). sym e

-- what holds of a refusal holds of the result that it became
pub from_refusal : {A : Type 0} (P : Result A Fault → Type 0) (r : Result A Fault) (e : FastLanesError) → IsErrAnd r (λ (f : Fault). f ≡ Refused e) → P (Err (Refused e)) → P r
from_refusal P (Ok x) e is p = absurd is
from_refusal P (Err f) e is p = subst (λ (f : Fault). P (Err f)) (sym is) p

-- only memory ran out
pub memory_alone : {A : Type 0} (fault : Option Fault) (Is : A → Type 0) (e : FastLanesError) → e ≡ OutOfMemory → Gives fault Is (Err (Refused e))
memory_alone fault Is e memory = λ (other : Refused e ≢ Refused OutOfMemory). absurd (other (ap Refused memory))
