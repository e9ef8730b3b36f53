-- Arrays that words hold.
use Rattle.std.specs.Prelude.{◌≡◌, ℤ, Option, Some, None}
use Rattle.fl_array.specs.Trees.{Tree}
use Rattle.flcol_c.specs.declared.fault.Fault.{Fault}
use Rattle.flcol_c.specs.declared.fault.Fault.TheVariants.{NoArray}
use Rattle.flcol_c.specs.declared.handle.ArrayHandle.{ArrayHandle}
use Rattle.flcol_c.specs.Statuses.{IsStatusAfter}

-- why a call on the array that a word holds does nothing, if it does nothing: no array is held, or a reason that the array gives
abbrev pub held_fault : (Tree → Option Fault) → Option Tree → Option Fault
held_fault fault None = Some NoArray
held_fault fault (Some t) = fault t

-- the status of a call on the array that a word holds says the first fault: those that the array gives before memory is asked for, and later
abbrev pub IsStatusOn : (Tree → Option Fault) → (Tree → Option Fault) → Option Tree → ℤ → Type 0
IsStatusOn before later held status = IsStatusAfter (held_fault before held) (held_fault later held) status

-- a word holds what it held
abbrev pub IsKept : ArrayHandle → ArrayHandle → Type 0
IsKept before after = (after.word ≡ before.word) × (after.tree ≡ before.tree)

-- an array is held, and the other word holds one that is related to it
abbrev pub HoldsFrom : (Tree → Tree → Type 0) → Option Tree → Option Tree → Type 0
HoldsFrom Is None made = ⊥
HoldsFrom Is (Some t) None = ⊥
HoldsFrom Is (Some t) (Some u) = Is t u
