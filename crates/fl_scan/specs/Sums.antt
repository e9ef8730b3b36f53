-- The sum of a column.
use Rattle.std.specs.Prelude.{ℤ, pos, Bool, true, false}
use Rattle.fl_scan.specs.declared.sums.Sum.{Sum}
use Rattle.fl_scan.specs.declared.sums.Sum.TheVariants.{Signed, Unsigned}

-- the integer of a sum
abbrev pub integer_of_sum : Sum → ℤ
integer_of_sum (Signed z) = z
integer_of_sum (Unsigned n) = pos n

-- the sum is one of unsigned integers
abbrev pub is_unsigned_sum : Sum → Bool
is_unsigned_sum (Signed z) = false
is_unsigned_sum (Unsigned n) = true
