-- The last foot of a file.
use Rattle.std.proofs.Common.{◌≡◌, ℕ, zero, suc, ◌+◌, ◌-◌, ◌*◌, ◌/◌, ◌%◌, ◌≤◌, ◌<◌, ◌++◌, Bool, true, false, cond, nat_lt, codes, List, [], ◌∷◌, length, take, drop, Option, None, Some, Result, Ok, Err, is_ok, ap, sym, ◌∙◌, refl, subst, arith, inl, inr}
use Rattle.std.specs.Prelude.{◌≢◌, IsErrAnd, bytes_eq}
use Rattle.fl_types.specs.declared.error.FastLanesError.TheVariants.{OutOfMemory}
use Rattle.fl_file.specs.declared.foot.ChunkEntry.{ChunkEntry}
use Rattle.fl_file.specs.declared.pruning.Pruning.{Pruning}
use Rattle.fl_file.specs.declared.pruning.Test.{Test}
use Rattle.fl_file.specs.Pruning.{IsPlanOf}
use Rattle.std.proofs.lemmas.Bool.{cases_lt, le-ltb, lt-ltb}
use Rattle.std.proofs.lemmas.List.{length-take, take-append-drop, take_all}
use Rattle.fl_file.specs.declared.error.FileError.{FileError}
use Rattle.fl_file.specs.declared.error.FileError.TheVariants as errors
use Rattle.fl_file.specs.FileLaws.{HasNoFootBehind}
use Rattle.fl_file.specs.FileReading.{begun, foot_before, foot_of_file, found_or, last_foot, last_foot_of_file}
use Rattle.fl_file.specs.Foot.{FootParts}
use Rattle.fl_file.specs.FootReading.{foot_of, then_with}
use Rattle.fl_file.proofs.CutAgain.{cut_again}
use Rattle.flcol_c.specs.declared.fault.Fault.{Fault}
use Rattle.flcol_c.specs.declared.fault.Fault.TheVariants as faults
use Rattle.flcol_c.specs.Feet.{IsLastEnd, chunks_fault, file_fault, finish_fault, of_file}
use Rattle.flcol_c.specs.Statuses.{Gives, fault_in}

-- ---- faults
then_fault : {X Y : Type 0} (r : Result X FileError) (f : X → Result Y FileError) (fault : Fault) → file_fault r ≡ Some fault → file_fault (then_with r f) ≡ Some fault
then_fault (Ok x) f fault h = absurd cc
then_fault (Err e) f fault h = h

-- a file that does not begin as one of chunks has no last foot, and for the same reason
pub not_begun : (bytes : List ℕ) (fault : Fault) → Some fault ≡ file_fault (begun bytes) → file_fault (last_foot_of_file bytes) ≡ Some fault
not_begun bytes fault h = then_fault (begun bytes) (λ n. last_foot bytes (n / 64)) fault (sym h)

begun_parts : (short marked : Bool) (n : ℕ) → None ≡ file_fault (cond short (Err errors.TooShort) (cond marked (Ok n) (Err errors.BadMark))) → (short ≡ false) × (marked ≡ true)
begun_parts true marked n h = absurd cc
begun_parts false true n h = (refl, refl)
begun_parts false false n h = absurd cc

-- a file that begins as one
pub is_begun : (bytes : List ℕ) → None ≡ file_fault (begun bytes) → begun bytes ≡ Ok (length bytes)
is_begun bytes h = let p = begun_parts (nat_lt (length bytes) 28) (bytes_eq (take 4 bytes) (codes "FLC2")) (length bytes) h in rw (p.0, p.1) refl

-- ---- the search
pub none_behind_all : (bytes : List ℕ) (count : ℕ) → count ≡ length bytes / 64 → HasNoFootBehind (64 * (count - 0)) bytes
none_behind_all bytes count is = λ k foot behind within. absurd (omega arith)

no_foot : (r : Result FootParts FileError) (foot : FootParts) → false ≡ is_ok r → r ≢ Ok foot
no_foot (Ok x) foot h e = absurd cc
no_foot (Err x) foot h e = absurd cc

pub none_behind : (bytes : List ℕ) (count i : ℕ) → i < count → false ≡ is_ok (foot_before bytes (64 * (count - i))) → HasNoFootBehind (64 * (count - i)) bytes → HasNoFootBehind (64 * (count - (i + 1))) bytes
none_behind bytes count i more none so_far = λ k foot behind within. elim (cases_lt (count - i) k) [
  | inl above ↦ so_far k foot (omega arith) within
  | inr at ↦ let same : count - i ≡ k = omega arith in no_foot (foot_before bytes (64 * k)) foot (subst (λ m. false ≡ is_ok (foot_before bytes (64 * m))) same none)
]

refused_or : (r other : Result FootParts FileError) → ((foot : FootParts) → r ≢ Ok foot) → found_or r other ≡ other
refused_or (Ok x) other h = absurd (h x refl)
refused_or (Err e) other h = refl

pub none_below : (bytes : List ℕ) (k : ℕ) → HasNoFootBehind 0 bytes → 64 * k ≤ length bytes → last_foot bytes k ≡ Err errors.BadMark
none_below bytes zero none within = refl
none_below bytes (suc k) none within = refused_or (foot_before bytes (64 * suc k)) (last_foot bytes k) (λ foot. none (suc k) foot (omega arith) within) ∙ none_below bytes k none (omega arith)

-- no beginning has a foot
pub nothing_found : (bytes : List ℕ) (count i : ℕ) → None ≡ file_fault (begun bytes) → count ≡ length bytes / 64 → count ≤ i → HasNoFootBehind (64 * (count - i)) bytes → Gives (file_fault (last_foot_of_file bytes)) (IsLastEnd bytes) (Err faults.BadMark)
nothing_found bytes count i begins is all none =
    let zero_is : 64 * (count - i) ≡ 0 = omega arith in
    let none' : HasNoFootBehind 0 bytes = subst (λ n. HasNoFootBehind n bytes) zero_is none in
    let last : last_foot_of_file bytes ≡ Err errors.BadMark = ap (λ r. then_with r (λ n. last_foot bytes (n / 64))) (is_begun bytes begins) ∙ none_below bytes (length bytes / 64) none' (omega arith) in
    λ (_ : faults.BadMark ≢ faults.Refused _). ap file_fault last

ok_parts : (r : Result FootParts FileError) → true ≡ is_ok r → (foot : FootParts) × (r ≡ Ok foot)
ok_parts (Ok x) h = (x, refl)
ok_parts (Err e) h = absurd cc

-- a beginning with a foot is a file of chunks
beginning_is : (bytes : List ℕ) (end : ℕ) (foot : FootParts) → None ≡ file_fault (begun bytes) → 64 ≤ end → end ≤ length bytes → foot_before bytes end ≡ Ok foot → foot_of_file (take end bytes) ≡ Ok foot
beginning_is bytes end foot begins long within h =
    let p = begun_parts (nat_lt (length bytes) 28) (bytes_eq (take 4 bytes) (codes "FLC2")) (length bytes) begins in
    let n : length (take end bytes) ≡ end = length-take end bytes ∙ omega arith in
    let short : nat_lt (length (take end bytes)) 28 ≡ false = le-ltb (length (take end bytes)) 28 (omega arith) in
    let mark : bytes_eq (take 4 (take end bytes)) (codes "FLC2") ≡ true = ap (λ l. bytes_eq l (codes "FLC2")) (take_take 4 end bytes (omega arith)) ∙ p.1 in
    let begins' : begun (take end bytes) ≡ Ok (length (take end bytes)) = rw (short, mark) refl in
    let whole : take end (take end bytes) ≡ take end bytes = take_take end end bytes (omega arith) in
    ap (λ r. then_with r (foot_before (take end bytes))) begins' ∙ ap (foot_before (take end bytes)) n ∙ ap (λ l. foot_of l end) whole ∙ h
  where
    take_take : {X : Type 0} (m n : ℕ) (xs : List X) → m ≤ n → take m (take n xs) ≡ take m xs
    take_take zero n xs le = refl
    take_take (suc m) zero xs le = absurd (omega arith)
    take_take (suc m) (suc n) [] le = refl
    take_take (suc m) (suc n) (x ∷ xs) le = ap (λ l. x ∷ l) (take_take m n xs (omega arith))

-- the end of the last foot
pub last_found : (bytes : List ℕ) (count i : ℕ) → None ≡ file_fault (begun bytes) → count ≡ length bytes / 64 → i < count → true ≡ is_ok (foot_before bytes (64 * (count - i))) → HasNoFootBehind (64 * (count - i)) bytes
    → Gives (file_fault (last_foot_of_file bytes)) (IsLastEnd bytes) (Ok (64 * (count - i)))
last_found bytes count i begins is more found none =
    let end = 64 * (count - i) in
    let p = ok_parts (foot_before bytes end) found in
    let within : end ≤ length bytes = omega arith in
    let n : length (take end bytes) ≡ end = length-take end bytes ∙ omega arith in
    let file : foot_of_file (take end bytes) ≡ Ok p.0 = beginning_is bytes end p.0 begins (omega arith) within p.1 in
    let aligned : length (take end bytes) % 64 ≡ 0 = omega arith in
    let parts : take end bytes ++ drop end bytes ≡ bytes = take-append-drop end bytes in
    let none' : HasNoFootBehind (length (take end bytes)) (take end bytes ++ drop end bytes) = rw (n, parts) none in
    let last : last_foot_of_file bytes ≡ Ok p.0 = ap last_foot_of_file (sym parts) ∙ cut_again (take end bytes) (drop end bytes) p.0 file aligned none' in
    (ap file_fault last, record { within = within; aligned = omega arith; foot = file ∙ sym last; last = none })

-- ---- faults that are passed on
pub fault_given : {A : Type 0} (fault : Option Fault) (Is : A → Type 0) (r : Result A Fault) (f : Fault) → IsErrAnd r (λ (e : Fault). e ≡ f) → (f ≢ faults.Refused OutOfMemory → fault ≡ Some f) → Gives fault Is r
fault_given fault Is (Ok x) f h g = absurd h
fault_given fault Is (Err e) f h g = subst (λ (d : Fault). Gives fault Is (Err d)) (sym h) g

pub chunks_refused : (room : ℕ) (r : Result FootParts FileError) (f : Fault) → file_fault r ≡ Some f → chunks_fault room r ≡ Some f
chunks_refused room (Ok foot) f h = absurd cc
chunks_refused room (Err e) f h = h

pub finish_refused : (place room : ℕ) (r : Result FootParts Fault) (f : Fault) → fault_in r ≡ Some f → finish_fault place room r ≡ Some f
finish_refused place room (Ok foot) f h = absurd cc
finish_refused place room (Err e) f h = h

-- ---- plans
pub plan_long : (test : Test) (es : List ChunkEntry) (ps : List Pruning) → IsPlanOf test es ps → length es ≡ length ps
plan_long test [] [] h = refl
plan_long test [] (p ∷ ps) h = absurd h
plan_long test (e ∷ es) [] h = absurd h
plan_long test (e ∷ es) (p ∷ ps) h = ap suc (plan_long test es ps h.1)
