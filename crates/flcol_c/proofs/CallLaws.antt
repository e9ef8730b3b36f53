-- Statuses of calls on files of chunks.
use Rattle.std.proofs.Common.{◌≡◌, ◌≢◌, ℕ, ℤ, List, pos, Option, None, Some, Result, Ok, Err, ap, sym, ◌∙◌, refl, subst}
use Rattle.std.specs.Prelude.{⊤, IsOkAnd}
use Rattle.fl_types.specs.declared.error.FastLanesError.TheVariants.{OutOfMemory}
use Rattle.fl_column.specs.Columns.{Column}
use Rattle.fl_array.specs.Trees.{Tree}
use Rattle.fl_file.specs.declared.error.FileError.{FileError}
use Rattle.fl_file.specs.FileReading.{foot_of_file}
use Rattle.fl_file.specs.Foot.{FootParts}
use Rattle.flcol_file.specs.declared.error.ColumnFileError.{ColumnFileError}
use Rattle.flcol_file.specs.Files.{IsFirstRefusal}
use Rattle.flcol_c.specs.declared.fault.Fault.{Fault}
use Rattle.flcol_c.specs.declared.fault.Fault.TheVariants as faults
use Rattle.flcol_c.specs.Feet.{GivesFootFault, IsFootStatus, file_fault, of_file, word_fault}
use Rattle.flcol_c.specs.Files.{FileHolds, GivesSum, GivesVerdict, IsAppendFault, IsAppendStatus, IsSumStatus, of_column_file}
use Rattle.flcol_c.specs.Statuses.{Gives, IsStatusOf, status_in, status_of}
use Rattle.flcol_c.proofs.StatusLaws.{status_given}

-- of a fault alone
pub fault_status : {A : Type 0} (fault : Option Fault) (Is : A → Type 0) (f : Fault) (t : ℤ) → Gives fault Is (Err f) → t ≡ status_of f → IsStatusOf fault t
fault_status fault Is f t g is = status_given fault Is (Err f) t g (λ _. is)

-- of a number
pub counted_status : (n : ℕ) (r : Result ℕ Fault) (s t : ℤ) → t ≡ s → Gives (word_fault n) (λ k. k ≡ n) r → s ≡ status_in r → IsStatusOf (word_fault n) t
counted_status n r s t same g is = status_given (word_fault n) (λ k. k ≡ n) r t g (λ _. same ∙ is)

pub counted_found : (n new : ℕ) (r : Result ℕ Fault) (s t : ℤ) → t ≡ s → Gives (word_fault n) (λ k. k ≡ n) r → (s ≡ pos 0 → IsOkAnd r (λ v. new ≡ v)) → t ≡ pos 0 → new ≡ n
counted_found n new (Ok x) s t same g written zero = written (sym same ∙ zero) ∙ g.1
counted_found n new (Err f) s t same g written zero = absurd (written (sym same ∙ zero))

-- of a foot
pub foot_status : {A : Type 0} (bytes : List ℕ) (r : Result A Fault) (s t : ℤ) → t ≡ s → GivesFootFault bytes r → s ≡ status_in r → IsFootStatus bytes t
foot_status bytes r s t same g is = λ fault known. status_given (Some fault) (λ _. ⊤) r t (g fault known) (λ _. same ∙ is)

-- of a sum
pub sum_status : (columns : List Column) (f : Fault) (t : ℤ) → GivesSum columns (Err f) → t ≡ status_of f → IsSumStatus columns t
sum_status columns f t g is = λ some other. let p = g (λ (memory : f ≡ faults.Refused OutOfMemory). other (is ∙ ap status_of memory)) in (is ∙ ap status_of p.0, p.1)

-- of a verdict
pub verdict_status : (bytes : List ℕ) (foot : FootParts) (f : Fault) (t : ℤ) → GivesVerdict {X = ⊤} bytes foot (Err f) → t ≡ status_of f → t ≢ pos 1 → (e : ColumnFileError) × (t ≡ status_of (of_column_file e)) × IsFirstRefusal bytes foot foot.chunks e
verdict_status bytes foot f t g is other = let p = g (λ (memory : f ≡ faults.Refused OutOfMemory). other (is ∙ ap status_of memory)) in (p.0, is ∙ ap status_of p.1, p.2)

no_fault : (fault : Fault) → ◌≡◌ {A = Option Fault} None (Some fault) → ⊥
no_fault fault e = cc

-- a file without a fault holds columns
pub verified_by : (bytes : List ℕ) → GivesFootFault {A = ⊤} bytes (Ok tt) → ((foot : FootParts) → foot_of_file bytes ≡ Ok foot → GivesVerdict {X = ⊤} bytes foot (Ok tt)) → (columns : List Column) × FileHolds bytes columns
verified_by bytes g v = go bytes (foot_of_file bytes) refl g v
  where
    go : (bytes : List ℕ) (r : Result FootParts FileError) → foot_of_file bytes ≡ r → GivesFootFault {A = ⊤} bytes (Ok tt) → ((foot : FootParts) → foot_of_file bytes ≡ Ok foot → GivesVerdict {X = ⊤} bytes foot (Ok tt)) → (columns : List Column) × FileHolds bytes columns
    go bytes (Ok foot) is g v = let p = v foot is in (p.0, (foot, is, p.1))
    go bytes (Err e) is g v = absurd (no_fault (of_file e) (sym (g (of_file e) (ap file_fault is)).0))

-- of an array that is added
pub append_status : (place room : ℕ) (held : Option Tree) (t : Tree) (f : Fault) (s : ℤ) → held ≡ Some t → (f ≢ faults.Refused OutOfMemory → IsAppendFault place room t f) → s ≡ status_of f → IsAppendStatus place room held s
append_status place room held t f s is g told = subst (λ (h : Option Tree). IsAppendStatus place room h s) (sym is) (λ some other. (f, told, g (λ (memory : f ≡ faults.Refused OutOfMemory). other (told ∙ ap status_of memory))))
