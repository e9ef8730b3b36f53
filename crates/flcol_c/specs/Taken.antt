-- What is taken out of a handle.
use Rattle.std.specs.Prelude.{◌≡◌, Option, None, Some}
use Rattle.std.specs.declared.boxed.Box.{Box}
use Rattle.std.specs.declared.alloc.Global.{Global}
use Rattle.flcol_c.specs.declared.unboxed.Unboxed.{Unboxed}
use Rattle.fl_array.specs.Trees.{Tree}

-- the parts of a box are those of the array that was held, if any
abbrev pub AreParts : Option (Unboxed Tree Global) → Option Tree → Type 0
AreParts None held = held ≡ None
AreParts (Some parts) held = held ≡ Some parts.value

-- the box has the array that was held, if any
abbrev pub IsBoxOf : Option (Box Tree Global) → Option Tree → Type 0
IsBoxOf None held = held ≡ None
IsBoxOf (Some array) held = held ≡ Some array.value
