-- Containers that arrays come from and are written as.
use Rattle.std.specs.Prelude.{◌≡◌, ◌≢◌, ◌⊎◌, ◌<◌, ℕ, ℤ, pos, Option, Some, None, List, ◌++◌, drop, length, Result, Ok, Err}
use Rattle.fl_types.specs.declared.error.FastLanesError.{FastLanesError}
use Rattle.fl_types.specs.declared.error.FastLanesError.TheVariants.{OutOfMemory}
use Rattle.fl_array.specs.Trees.{Tree}
use Rattle.fl_serialized.specs.Nodes.{Node}
use Rattle.fl_serde.specs.Reading.{reading}
use Rattle.fl_serde.specs.Writing.{written}
use Rattle.flcol_container.specs.declared.error.ContainerError.{ContainerError}
use Rattle.flcol_container.specs.declared.error.ContainerError.TheVariants as containers
use Rattle.flcol_container.specs.Container.{HasNoContainer, IsContainer, IsNoContainer}
use Rattle.flcol_c.specs.declared.fault.Fault.{Fault}
use Rattle.flcol_c.specs.declared.fault.Fault.TheVariants.{BadContainer, NoArray, Refused, WrongLength}
use Rattle.flcol_c.specs.Statuses.{status_of}

-- the fault of a container's error
abbrev pub of_container : ContainerError → Fault
of_container containers.OutOfMemory = Refused OutOfMemory
of_container containers.BadContainer = BadContainer

-- the array is the one that a container's bytes are read as
abbrev pub IsArrayOf : List ℕ → Tree → Type 0
IsArrayOf bytes t = (node : Node) × IsContainer bytes node × (reading node ≡ Ok t)

-- bytes give no array: they are no container, or its node is refused
abbrev pub IsReadFault : List ℕ → Fault → Type 0
IsReadFault bytes fault =
    ((fault ≡ BadContainer) × IsNoContainer bytes)
    ⊎ ((node : Node) × (refusal : FastLanesError) × IsContainer bytes node × (reading node ≡ Err refusal) × (fault ≡ Refused refusal))

-- bytes gave their array, or the fault was answered for which they give none, unless memory ran out
abbrev pub GivesArray : List ℕ → Result Tree Fault → Type 0
GivesArray bytes (Ok t) = IsArrayOf bytes t
GivesArray bytes (Err fault) = fault ≢ Refused OutOfMemory → IsReadFault bytes fault

-- the status of reading a container says the fault, unless memory ran out
abbrev pub IsReadStatus : List ℕ → ℤ → Type 0
IsReadStatus bytes status = status ≢ pos 0 → status ≢ pos 1 → (fault : Fault) × (status ≡ status_of fault) × IsReadFault bytes fault

-- these bytes are the container of an array
abbrev pub IsContainerOf : Tree → List ℕ → Type 0
IsContainerOf t bytes = IsContainer bytes (written t)

-- an array's container was written, seen by view, or it has none, unless memory ran out
abbrev pub GivesContainer : {X : Type 0} → (X → List ℕ) → Tree → Result X Fault → Type 0
GivesContainer view t (Ok x) = IsContainerOf t (view x)
GivesContainer view t (Err fault) = fault ≢ Refused OutOfMemory → (fault ≡ BadContainer) × HasNoContainer (written t)

-- the status of looking for an array's container: none is held, or the array has none, unless memory ran out
abbrev pub IsContainerStatus : Option Tree → ℤ → Type 0
IsContainerStatus None status = status ≡ status_of NoArray
IsContainerStatus (Some t) status = status ≢ pos 0 → status ≢ pos 1 → (status ≡ status_of BadContainer) × HasNoContainer (written t)

-- the status of writing an array's container where there is room for so many bytes: none is held, it has none, or a longer one, unless memory ran out
abbrev pub IsWriteStatus : ℕ → Option Tree → ℤ → Type 0
IsWriteStatus room None status = status ≡ status_of NoArray
IsWriteStatus room (Some t) status =
    status ≢ pos 0 → status ≢ pos 1
    → ((status ≡ status_of BadContainer) × HasNoContainer (written t)) ⊎ ((status ≡ status_of WrongLength) × ((bytes : List ℕ) × IsContainerOf t bytes × (room < length bytes)))

-- so many bytes are an array's container
abbrev pub HasContainerLen : ℕ → Tree → Type 0
HasContainerLen len t = (bytes : List ℕ) × IsContainerOf t bytes × (length bytes ≡ len)

-- it was found how many bytes an array's container has, or it has none, unless memory ran out
abbrev pub GivesContainerLen : Tree → Result ℕ Fault → Type 0
GivesContainerLen t (Ok len) = HasContainerLen len t
GivesContainerLen t (Err fault) = fault ≢ Refused OutOfMemory → (fault ≡ BadContainer) × HasNoContainer (written t)

-- an array's container, of so many bytes, stands in place of the first bytes, and those behind them are as before
abbrev pub IsWrittenOver : List ℕ → List ℕ → ℕ → Tree → Type 0
IsWrittenOver before after len t = (bytes : List ℕ) × IsContainerOf t bytes × (length bytes ≡ len) × (after ≡ bytes ++ drop len before)

-- an array is held of which this is true
abbrev pub Holds : (Tree → Type 0) → Option Tree → Type 0
Holds Is None = ⊥
Holds Is (Some t) = Is t
