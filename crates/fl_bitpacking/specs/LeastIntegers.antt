-- The least integer of a type.
use Rattle.std.specs.Prelude.{ℤ, pos, negsuc}
use Rattle.fl_types.specs.declared.dtype.PType.{PType}
use Rattle.fl_types.specs.declared.dtype.PType.TheVariants.{U8, U16, U32, U64, I8, I16, I32, I64}

-- the least integer of a type
abbrev pub least_of : PType → ℤ
least_of U8 = pos 0
least_of U16 = pos 0
least_of U32 = pos 0
least_of U64 = pos 0
least_of I8 = negsuc 127
least_of I16 = negsuc 32767
least_of I32 = negsuc 2147483647
least_of I64 = negsuc 9223372036854775807
