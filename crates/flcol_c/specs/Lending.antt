-- An array that a handle lends.
use Rattle.std.specs.Prelude.{◌≡◌, Option, None, Some}
use Rattle.std.specs.Borrow.{Lends, LendsIf, MutBor, Fml}
use Rattle.fl_array.specs.Trees.{Tree}
use Rattle.fl_array.specs.contracts.array.ArrayRef as array
use Rattle.flcol_c.specs.declared.handle.ArrayHandle.{ArrayHandle}
use Rattle.flcol_c.specs.contracts.handle.ArrayHandle as handle

-- a handle with another array in place of the one that it holds
abbrev pub with_array : ArrayHandle → Tree → ArrayHandle
with_array h t = record { word = h.word; tree = Some t }

-- the handle ends with the last array behind the borrow
abbrev pub LendsArray : MutBor ArrayHandle → MutBor Tree → Fml
LendsArray h r = Lends handle.the_row array.the_row h r (with_array h.now)

-- the same where there is a borrow, else the handle ends as it was
abbrev pub LendsArrayIf : MutBor ArrayHandle → Option (MutBor Tree) → Fml
LendsArrayIf h r = LendsIf handle.the_row array.the_row h r (with_array h.now) h.now

-- the array behind the borrow is the one that is held, if any
abbrev pub IsLent : Option (MutBor Tree) → Option Tree → Type 0
IsLent None held = held ≡ None
IsLent (Some r) held = held ≡ Some r.now
