-- The stored integers of a plain array.
use Rattle.std.specs.Prelude.{ℤ, pos, List, map}
use Rattle.fl_types.specs.declared.dtype.PType.{PType}
use Rattle.fl_types.specs.declared.dtype.PType.TheVariants as types
use Rattle.fl_types.specs.declared.buffer.PrimitiveBuffer.{PrimitiveBuffer}
use Rattle.fl_types.specs.declared.buffer.PrimitiveBuffer.TheVariants.{U8, U16, U32, U64, I8, I16, I32, I64}

-- the integer type of the slots
abbrev pub ptype_of : PrimitiveBuffer → PType
ptype_of (U8 v) = types.U8
ptype_of (U16 v) = types.U16
ptype_of (U32 v) = types.U32
ptype_of (U64 v) = types.U64
ptype_of (I8 v) = types.I8
ptype_of (I16 v) = types.I16
ptype_of (I32 v) = types.I32
ptype_of (I64 v) = types.I64

-- the integers, also those under a null
abbrev pub integers_of : PrimitiveBuffer → List ℤ
integers_of (U8 v) = map (λ n. pos n) v.items
integers_of (U16 v) = map (λ n. pos n) v.items
integers_of (U32 v) = map (λ n. pos n) v.items
integers_of (U64 v) = map (λ n. pos n) v.items
integers_of (I8 v) = v.items
integers_of (I16 v) = v.items
integers_of (I32 v) = v.items
integers_of (I64 v) = v.items
