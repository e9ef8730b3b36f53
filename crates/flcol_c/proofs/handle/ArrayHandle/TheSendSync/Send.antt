-- What a handle owns names no thread's token, so it may cross as its array may.
use mir.Raw.{raw}
use base.Fraction.{full_share}
use base.Shift.{Keyless}
use denote.Builtin.{RawPtr}
use denote.Exit.{Exit, unchanged, leaves, hidden, under}
use denote.Memory.{lone}
use denote.RawPtr.{Ptr, block_ptr, null_ptr, lies_at}
use denote.Param.Send.{IsSend, Quiet, part_keyless, owning_send, struct_send, sendable}
use denote.Struct.Struct.{exits_of}
use denote.Struct.Owning.{shape, fields, to}
use Rattle.std.specs.declared.option.Option.{Option}
use Rattle.std.specs.declared.option.Option.TheVariants.{None, Some}
use Rattle.std.proofs.Crossing.{Box-send, frees}
use Rattle.fl_types.proofs.scalar.Scalar.TheSendSync as scalar
use Rattle.fl_types.proofs.validity.Validity.TheSendSync as validity
use Rattle.fl_column.proofs.bools.BoolArray.TheSendSync as bools
use Rattle.fl_column.proofs.constant.ConstantArray.TheSendSync as constant
use Rattle.fl_column.proofs.primitive.PrimitiveArray.TheSendSync as primitive
use Rattle.fl_bitpacking.proofs.packed_data.PackedData.TheSendSync as packed
use Rattle.fl_array.specs.Trees.{Tree}
use Rattle.fl_array.specs.contracts.array.ArrayRef as array
use Rattle.fl_array.proofs.array.ArrayRef.TheLaws.TheKnot as knot
use Rattle.flcol_c.specs.Owned.{handle_owns}
use Rattle.flcol_c.specs.contracts.handle.ArrayHandle.{the_row, the_type}

-- an array may be sent, with the arrays in it
array_send : IsSend array.the_row
array_send = search (sendable, knot.send-ArrayRef, packed.the_send, bools.the_send, constant.the_send, primitive.the_send, validity.the_send, scalar.the_send, Box-send)

lies : (p : Ptr) (t : Tree) → Keyless (lies_at array.the_row full_share p t)
lies (block_ptr b o) t = part_keyless array.the_row array_send full_share t b o
lies null_ptr t = tt

keyless : (p : Ptr) (held : Option Tree) → Keyless (handle_owns p held)
keyless p None = tt
keyless p (Some t) = λ a. (lies p t, frees.frees a (raw (lone (array.the_row).mir)) p)

quiet : {D X : Type 0} (to : D → X) (e : Exit X) → Quiet e → Quiet (hidden (under to e))
quiet to unchanged q = λ x w. tt
quiet to (leaves L l S s r₀) q = λ d. q (to d)

pub send : IsSend the_row
send = let O = the_type in let ps : IsSend RawPtr = search sendable in
    owning_send O (ps, tt) (λ d. keyless d.word d.tree) (λ k. quiet (to O) (exits_of k (fields O)) ((struct_send (shape O) (ps, tt)).leaving k))
