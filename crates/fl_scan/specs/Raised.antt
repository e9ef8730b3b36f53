-- Integers of a type, counted from the least one.
use Rattle.std.specs.Prelude.{ℕ}
use Rattle.fl_types.specs.declared.dtype.PType.{PType}
use Rattle.fl_types.specs.declared.dtype.PType.TheVariants.{U8, U16, U32, U64, I8, I16, I32, I64}

-- how far the least integer of a type is below 0
abbrev pub raise : PType → ℕ
raise U8 = 0
raise U16 = 0
raise U32 = 0
raise U64 = 0
raise I8 = 128
raise I16 = 32768
raise I32 = 2147483648
raise I64 = 9223372036854775808
