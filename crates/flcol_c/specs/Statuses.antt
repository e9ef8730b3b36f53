-- The statuses of calls.
use Rattle.std.specs.Prelude.{◌≡◌, ◌≢◌, ℤ, pos, Option, Some, None, Result, Ok, Err}
use Rattle.fl_types.specs.declared.error.FastLanesError.{FastLanesError}
use Rattle.fl_types.specs.declared.error.FastLanesError.TheVariants.{OutOfMemory}
use Rattle.fl_types.specs.Refusals.{number_of}
use Rattle.flcol_c.specs.declared.fault.Fault.{Fault}
use Rattle.flcol_c.specs.declared.fault.Fault.TheVariants.{BadChunk, BadContainer, BadEncodings, BadField, BadFootChecksum, BadFootLength, BadMark, BadOperator, BadPlace, BadScheme, BadStatistics, FileTooLong, FileTooShort, NoArray, Refused, WrongLength, WrongType}

-- the status that says a fault: a refusal's number, 42 of containers, from 100 on those of the calls alone
abbrev pub status_of : Fault → ℤ
status_of (Refused refusal) = pos (number_of refusal)
status_of BadContainer = pos 42
status_of NoArray = pos 100
status_of WrongType = pos 101
status_of WrongLength = pos 102
status_of BadScheme = pos 103
status_of BadOperator = pos 104
status_of BadEncodings = pos 106
status_of FileTooShort = pos 107
status_of BadMark = pos 108
status_of BadFootLength = pos 109
status_of BadFootChecksum = pos 110
status_of BadField = pos 111
status_of BadPlace = pos 112
status_of BadChunk = pos 113
status_of FileTooLong = pos 114
status_of BadStatistics = pos 115

-- the status that says the first fault, or 0 where there is none
abbrev pub status_at : Option Fault → ℤ
status_at None = pos 0
status_at (Some fault) = status_of fault

-- the status says the first fault, or that there is none; 1 also says that memory ran out
abbrev pub IsStatusOf : Option Fault → ℤ → Type 0
IsStatusOf fault status = status ≢ pos 1 → status ≡ status_at fault

-- the first of two faults, if there is one
abbrev pub first_of : Option Fault → Option Fault → Option Fault
first_of None later = later
first_of (Some fault) later = Some fault

-- the same of faults that are known before memory is asked for, for which 1 does not stand, and of later ones
abbrev pub IsStatusAfter : Option Fault → Option Fault → ℤ → Type 0
IsStatusAfter before later status = ((fault : Fault) → before ≡ Some fault → status ≡ status_of fault) × IsStatusOf (first_of before later) status

-- the refusal of an answer, if it is one
abbrev pub refusal_in : {A : Type 0} → Result A FastLanesError → Option Fault
refusal_in (Ok x) = None
refusal_in (Err refusal) = Some (Refused refusal)

-- the fault of a result, if it is one
abbrev pub fault_in : {A : Type 0} → Result A Fault → Option Fault
fault_in (Ok x) = None
fault_in (Err fault) = Some fault

-- a call gave what it was to give, or answered the first fault, unless memory ran out
abbrev pub Gives : {A : Type 0} → Option Fault → (A → Type 0) → Result A Fault → Type 0
Gives fault Is (Ok x) = (fault ≡ None) × Is x
Gives fault Is (Err other) = other ≢ Refused OutOfMemory → fault ≡ Some other

-- the same of faults that are known before memory is asked for, which are answered in any case, and of later ones
abbrev pub GivesAfter : {A : Type 0} → Option Fault → Option Fault → (A → Type 0) → Result A Fault → Type 0
GivesAfter before later Is result = ((fault : Fault) → before ≡ Some fault → fault_in result ≡ Some fault) × Gives (first_of before later) Is result

-- the status of a result
abbrev pub status_in : {A : Type 0} → Result A Fault → ℤ
status_in (Ok x) = pos 0
status_in (Err fault) = status_of fault
