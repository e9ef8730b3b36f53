-- Why a run is refused: numbers, names, and the line that says both.
use Rattle.std.specs.Prelude.{◌≡◌, ◌≢◌, IsOkAnd, Result, Ok, Err, ℕ, ◌+◌, ◌/◌, ◌%◌, List, ◌++◌, ◌∷◌, [], codes, if◌then◌else◌, nat_lt}
use Rattle.fl_types.specs.declared.error.FastLanesError.{FastLanesError}
use Rattle.fl_types.specs.declared.error.FastLanesError.TheVariants.{OutOfMemory}
use Rattle.fl_types.specs.RefusalNames.{refusal_name}
use Rattle.fl_types.specs.Refusals.{number_of}
use Rattle.flcol_container.specs.declared.error.ContainerError.{ContainerError}
use Rattle.flcol_container.specs.declared.error.ContainerError.TheVariants as containers
use Rattle.flcol_engine.specs.declared.fault.Fault.{Fault}
use Rattle.flcol_engine.specs.declared.fault.Fault.TheVariants.{Refused, BadColumn, BadContainer, ReadFault, WriteFault}

-- memory ran out
abbrev pub out_of_memory : Fault
out_of_memory = Refused OutOfMemory

-- a fault of a container as the program's
abbrev pub of_container : ContainerError → Fault
of_container containers.OutOfMemory = out_of_memory
of_container containers.BadContainer = BadContainer

-- a fault's number: a refusal of the library has its own
abbrev pub fault_number : Fault → ℕ
fault_number (Refused error) = number_of error
fault_number BadColumn = 41
fault_number BadContainer = 42
fault_number ReadFault = 43
fault_number WriteFault = 44

-- a fault's name
abbrev pub fault_name : Fault → List ℕ
fault_name (Refused error) = refusal_name error
fault_name BadColumn = codes "BadColumn"
fault_name BadContainer = codes "BadContainer"
fault_name ReadFault = codes "ReadFault"
fault_name WriteFault = codes "WriteFault"

-- a number below 100 in decimal digits
abbrev pub decimal_digits : ℕ → List ℕ
decimal_digits n = if nat_lt n 10 then (48 + n) ∷ [] else (48 + n / 10) ∷ (48 + n % 10) ∷ []

-- the line that says a fault's number and name
abbrev pub fault_line : Fault → List ℕ
fault_line fault = codes "error " ++ decimal_digits (fault_number fault) ++ codes " " ++ fault_name fault ++ 10 ∷ []

-- what a call returned stands in this relation to what is expected, or is the expected fault, unless memory ran out
abbrev pub IsOutcome : {X Y : Type 0} → (Y → X → Type 0) → Result X Fault → Result Y Fault → Type 0
IsOutcome Means (Ok x) expected = IsOkAnd expected (λ y. Means y x)
IsOutcome Means (Err e) expected = e ≢ out_of_memory → expected ≡ Err e
