-- What a handle owns.
use Rattle.std.specs.Prelude.{Option, None, Some}
use base.Fml.{Fml, feq, fex}
use denote.RawPtr.{Ptr, null_ptr}
use Rattle.std.specs.declared.alloc.Global.{Global}
use Rattle.std.specs.contracts.impls.GlobalAllocator.TheImpl.{ghosts}
use Rattle.std.specs.Box.Ownership.{box_owns}
use Rattle.fl_array.specs.Trees.{Tree}
use Rattle.fl_array.specs.contracts.array.ArrayRef.{the_row}

-- the array on the heap at a pointer, with the right to free its block
abbrev pub array_owns : Ptr → Tree → Fml
array_owns p t = fex Global (λ alloc. box_owns (ghosts.dealloc_token alloc) the_row p t)

-- nothing where the pointer is null, else an array
abbrev pub handle_owns : Ptr → Option Tree → Fml
handle_owns p None = feq Ptr p null_ptr
handle_owns p (Some t) = array_owns p t
