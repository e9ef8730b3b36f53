-- Integers of a type.
use Rattle.std.specs.Prelude.{◌≡◌, ℕ, Bool, true, false, ◌==◌, ◌^◌, ◌/◌, ℤ, pos, FitsSigned, unsigned_abs, nat_lt, if◌then◌else◌}
use Rattle.std.specs.Ordering.{int_eq}
use Rattle.std.specs.Int.{w8, w16, w32, w64, FitsUnsignedBits}
use Rattle.num_traits.specs.Laws.{wrap_signed, wrap_unsigned}
use Rattle.fl_types.specs.declared.dtype.PType.{PType}
use Rattle.fl_types.specs.declared.dtype.PType.TheVariants.{U8, U16, U32, U64, I8, I16, I32, I64}

-- the integer of the type that equals this one modulo 2 to the power of the type's bits
abbrev pub wrap : PType → ℤ → ℤ
wrap U8 z = wrap_unsigned 8 z
wrap U16 z = wrap_unsigned 16 z
wrap U32 z = wrap_unsigned 32 z
wrap U64 z = wrap_unsigned 64 z
wrap I8 z = wrap_signed w8 z
wrap I16 z = wrap_signed w16 z
wrap I32 z = wrap_signed w32 z
wrap I64 z = wrap_signed w64 z

-- the integer lies in the type's range
abbrev pub FitsIn : PType → ℤ → Type 0
FitsIn U8 z = FitsUnsignedBits 8 z
FitsIn U16 z = FitsUnsignedBits 16 z
FitsIn U32 z = FitsUnsignedBits 32 z
FitsIn U64 z = FitsUnsignedBits 64 z
FitsIn I8 z = FitsSigned w8 z
FitsIn I16 z = FitsSigned w16 z
FitsIn I32 z = FitsSigned w32 z
FitsIn I64 z = FitsSigned w64 z

-- the number of an integer type in serialized metadata, from 0 to 7
abbrev pub code_of : PType → ℕ
code_of U8 = 0
code_of U16 = 1
code_of U32 = 2
code_of U64 = 3
code_of I8 = 4
code_of I16 = 5
code_of I32 = 6
code_of I64 = 7

-- two types are one
abbrev pub same_ptype : PType → PType → Bool
same_ptype a b = code_of a == code_of b

-- the bits of an integer type
abbrev pub bits_of_type : PType → ℕ
bits_of_type U8 = 8
bits_of_type U16 = 16
bits_of_type U32 = 32
bits_of_type U64 = 64
bits_of_type I8 = 8
bits_of_type I16 = 16
bits_of_type I32 = 32
bits_of_type I64 = 64

-- the lanes of a block of words of the type's bits
abbrev pub lanes_of_type : PType → ℕ
lanes_of_type ptype = 1024 / bits_of_type ptype

-- the type has no sign
abbrev pub is_unsigned : PType → Bool
is_unsigned U8 = true
is_unsigned U16 = true
is_unsigned U32 = true
is_unsigned U64 = true
is_unsigned signed = false

-- the type of the same bits with a sign, or without
abbrev pub other_sign : PType → PType
other_sign U8 = I8
other_sign U16 = I16
other_sign U32 = I32
other_sign U64 = I64
other_sign I8 = U8
other_sign I16 = U16
other_sign I32 = U32
other_sign I64 = U64

-- the pattern of an integer: equal to it modulo 2 to the type's bits
abbrev pub pattern_of : PType → ℤ → ℕ
pattern_of ptype z = unsigned_abs (wrap_unsigned (bits_of_type ptype) z)

-- a pattern, read as the type
abbrev pub read_as : PType → ℕ → ℤ
read_as ptype p = wrap ptype (pos p)

-- the integer is one of the type's
abbrev pub fits : PType → ℤ → Bool
fits ptype z = int_eq (wrap ptype z) z

-- the smallest unsigned type that holds a number
abbrev pub smallest_type : ℕ → PType
smallest_type n = if nat_lt n (2 ^ 8) then U8 else if nat_lt n (2 ^ 16) then U16 else if nat_lt n (2 ^ 32) then U32 else U64

-- one natural number is one integer
pub pos_injective : (x y : ℕ) → pos x ≡ pos y → x ≡ y
pos_injective x y e = cc
