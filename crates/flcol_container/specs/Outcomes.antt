-- What calls that read and write containers answer.
use Rattle.std.specs.Prelude.{◌≡◌, ◌≤◌, ◌^◌, ℕ, false, List, Option, Some, None, Result, Ok, Err, length, ⊤}
use Rattle.fl_serialized.specs.Nodes.{Node}
use Rattle.flcol_container.specs.declared.error.ContainerError.{ContainerError}
use Rattle.flcol_container.specs.declared.error.ContainerError.TheVariants.{BadContainer, OutOfMemory}
use Rattle.flcol_container.specs.Container.{HasNoContainer, IsContainer, IsNoContainer, max_depth}
use Rattle.flcol_container.specs.Room.{has_room}

-- a container's bytes were read as the node that has them, or no node has them, unless memory ran out
abbrev pub IsReading : List ℕ → Result Node ContainerError → Type 0
IsReading bytes (Ok node) = IsContainer bytes node
IsReading bytes (Err BadContainer) = IsNoContainer bytes
IsReading bytes (Err OutOfMemory) = ⊤

-- a node has no room in a container, and so none: more than sixteen nodes stand in one another, or a part of one doesn't fit its field
abbrev pub LacksRoom : Node → Type 0
LacksRoom node = (has_room max_depth node ≡ false) × HasNoContainer node

-- a node was written as the bytes of its container, seen by view, or has no room in one, unless memory ran out
abbrev pub IsWriting : {X : Type 0} → (X → List ℕ) → Node → Result X ContainerError → Type 0
IsWriting view node (Ok x) = IsContainer (view x) node
IsWriting view node (Err BadContainer) = LacksRoom node
IsWriting view node (Err OutOfMemory) = ⊤

-- a node's container has so many bytes, or it has no room in one, or its container has more bytes than memory can hold
abbrev pub IsMeasuring : Node → Result ℕ ContainerError → Type 0
IsMeasuring node (Ok len) = (bytes : List ℕ) × IsContainer bytes node × (length bytes ≡ len)
IsMeasuring node (Err BadContainer) = LacksRoom node
IsMeasuring node (Err OutOfMemory) = (bytes : List ℕ) → IsContainer bytes node → 2 ^ 63 ≤ length bytes

-- nothing is found where a call answered that these are no container's bytes
abbrev pub FindsNothing : {Y : Type 0} → ContainerError → Option Y → Type 0
FindsNothing BadContainer found = found ≡ None
FindsNothing OutOfMemory found = ⊤

-- a call gave what is found, seen by view, unless memory ran out
abbrev pub Finds : {X Y : Type 0} → (X → Y) → Result X ContainerError → Option Y → Type 0
Finds view (Ok x) found = found ≡ Some (view x)
Finds view (Err e) found = FindsNothing e found

-- a call gave what is found at the front, seen by view, and left what stands behind it, unless memory ran out
abbrev pub Takes : {X Y : Type 0} → (X → Y) → Result X ContainerError → List ℕ → Option (Y × List ℕ) → Type 0
Takes view (Ok x) left found = found ≡ Some (view x, left)
Takes view (Err e) left found = FindsNothing e found
