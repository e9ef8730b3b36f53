-- Types of columns.
use Rattle.std.specs.Prelude.{Bool, true, false, not, Option, Some, None, is_some}
use Rattle.fl_types.specs.declared.dtype.PType.{PType}
use Rattle.fl_types.specs.declared.dtype.DType.{DType}
use Rattle.fl_types.specs.declared.dtype.DType.TheVariants as dtypes
use Rattle.fl_types.specs.declared.dtype.Nullability.{Nullability}
use Rattle.fl_types.specs.declared.dtype.Nullability.TheVariants.{NonNullable, Nullable}
use Rattle.fl_types.specs.Integers.{same_ptype, is_unsigned}

-- the integer type, if it is one
abbrev pub integer_type : DType → Option PType
integer_type (dtypes.Primitive ptype nullability) = Some ptype
integer_type (dtypes.Bool nullability) = None

-- the nullability of a type
abbrev pub nullability_in : DType → Nullability
nullability_in (dtypes.Primitive ptype nullability) = nullability
nullability_in (dtypes.Bool nullability) = nullability

-- nulls may stand there
abbrev pub can_be_null : Nullability → Bool
can_be_null NonNullable = false
can_be_null Nullable = true

-- nullable where one of two is
abbrev pub either_nullable : Nullability → Nullability → Nullability
either_nullable NonNullable other = other
either_nullable Nullable other = Nullable

-- a column of the type may have nulls, as a boolean
abbrev pub is_nullable : DType → Bool
is_nullable dtype = can_be_null (nullability_in dtype)

-- the type is of integers
abbrev pub is_integer : DType → Bool
is_integer dtype = is_some (integer_type dtype)

-- integers of this type
abbrev pub has_ptype : PType → DType → Bool
has_ptype ptype (dtypes.Primitive other nullability) = same_ptype ptype other
has_ptype ptype (dtypes.Bool nullability) = false

-- the same integer type, or both booleans, whatever the nullability
abbrev pub same_type : DType → DType → Bool
same_type (dtypes.Primitive ptype nullability) other = has_ptype ptype other
same_type (dtypes.Bool nullability) other = not (is_integer other)

-- unsigned integers without nulls, as positions and lengths have
abbrev pub is_index_type : DType → Bool
is_index_type (dtypes.Primitive ptype NonNullable) = is_unsigned ptype
is_index_type (dtypes.Primitive ptype Nullable) = false
is_index_type (dtypes.Bool nullability) = false

-- the same type, where nulls may stand or not
abbrev pub with_nullability : Nullability → DType → DType
with_nullability nullability (dtypes.Primitive ptype old) = dtypes.Primitive ptype nullability
with_nullability nullability (dtypes.Bool old) = dtypes.Bool nullability
