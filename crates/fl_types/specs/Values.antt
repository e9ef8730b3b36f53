-- Single values.
use Rattle.std.specs.Prelude.{◌||◌, ℤ, pos, Bool, true, false, Option, Some, None}
use Rattle.std.specs.Ordering.{int_eq}
use Rattle.fl_types.specs.Integers.{fits}
use Rattle.fl_types.specs.declared.dtype.PType.{PType}
use Rattle.fl_types.specs.declared.dtype.PType.TheVariants as types
use Rattle.fl_types.specs.declared.dtype.DType.{DType}
use Rattle.fl_types.specs.declared.dtype.DType.TheVariants as dtypes
use Rattle.fl_types.specs.declared.dtype.Nullability.TheVariants.{Nullable}
use Rattle.fl_types.specs.declared.scalar.PValue.{PValue}
use Rattle.fl_types.specs.declared.scalar.PValue.TheVariants.{U8, U16, U32, U64, I8, I16, I32, I64}
use Rattle.fl_types.specs.declared.scalar.Scalar.{Scalar}
use Rattle.fl_types.specs.declared.scalar.Scalar.TheVariants as scalars

-- the type of a value
abbrev pub ptype_of_value : PValue → PType
ptype_of_value (U8 x) = types.U8
ptype_of_value (U16 x) = types.U16
ptype_of_value (U32 x) = types.U32
ptype_of_value (U64 x) = types.U64
ptype_of_value (I8 x) = types.I8
ptype_of_value (I16 x) = types.I16
ptype_of_value (I32 x) = types.I32
ptype_of_value (I64 x) = types.I64

-- the integer of a value
abbrev pub integer_of : PValue → ℤ
integer_of (U8 x) = pos x
integer_of (U16 x) = pos x
integer_of (U32 x) = pos x
integer_of (U64 x) = pos x
integer_of (I8 x) = x
integer_of (I16 x) = x
integer_of (I32 x) = x
integer_of (I64 x) = x

-- a value of a type, or a null
pub record ScalarParts : Type 0 where
  pub dtype : DType
  pub value : Option ℤ

-- a boolean, as a column holds it
abbrev pub bool_number : Bool → ℤ
bool_number true = pos 1
bool_number false = pos 0

-- the integer is one of the type's; booleans are 0 and 1
abbrev pub fits_in : DType → ℤ → Bool
fits_in (dtypes.Primitive ptype nullability) z = fits ptype z
fits_in (dtypes.Bool nullability) z = int_eq z (pos 0) || int_eq z (pos 1)

-- what a scalar is
abbrev pub scalar_parts : Scalar → ScalarParts
scalar_parts (scalars.Integer value nullability) = record { dtype = dtypes.Primitive (ptype_of_value value) nullability; value = Some (integer_of value) }
scalar_parts (scalars.Bool value nullability) = record { dtype = dtypes.Bool nullability; value = Some (bool_number value) }
scalar_parts (scalars.NullInteger ptype) = record { dtype = dtypes.Primitive ptype Nullable; value = None }
scalar_parts scalars.NullBool = record { dtype = dtypes.Bool Nullable; value = None }
