-- What is gathered of a column for C.
use Rattle.std.specs.Prelude.{◌≡◌, ◌&&◌, ◌⊎◌, ℕ, ℤ, pos, Bool, true, false, not, Option, Some, None, is_none, if◌then◌else◌}
use Rattle.fl_types.specs.declared.dtype.PType.{PType}
use Rattle.fl_types.specs.Types.{has_ptype, is_integer}
use Rattle.fl_types.specs.Integers.{is_unsigned}
use Rattle.fl_column.specs.Columns.{Column, ptype_of_column}
use Rattle.fl_array.specs.Trees.{Tree, column}
use Rattle.fl_scan.specs.Totals.{filtered_by, greatest_item, least_item}
use Rattle.flcol_c.specs.Answering.{operator_of}
use Rattle.flcol_c.specs.declared.fault.Fault.{Fault}
use Rattle.flcol_c.specs.declared.fault.Fault.TheVariants.{BadOperator, WrongType}

-- why items of a type are not gathered, if they are not
abbrev pub type_fault : PType → Column → Option Fault
type_fault ptype c = if has_ptype ptype c.dtype then None else Some WrongType

-- the same of a comparison, whose operator a number names
abbrev pub count_fault : PType → ℕ → Column → Option Fault
count_fault ptype operator c = if is_none (operator_of operator) then Some BadOperator else type_fault ptype c

-- why there is no sum of a column of integers without a sign, or of ones with a sign, if there is none
abbrev pub sum_fault : Bool → Column → Option Fault
sum_fault true c = if is_integer c.dtype && is_unsigned (ptype_of_column c) then None else Some WrongType
sum_fault false c = if is_integer c.dtype && not (is_unsigned (ptype_of_column c)) then None else Some WrongType

-- two values and a 0 are the least and the greatest valid item of a column, or two zeros and a 1 stand for none
abbrev pub AreExtremes : Column → ℤ → ℤ → ℕ → Type 0
AreExtremes c least greatest none =
    ((least_item c ≡ Some least) × (greatest_item c ≡ Some greatest) × (none ≡ 0)) ⊎ ((least_item c ≡ None) × (least ≡ pos 0) × (greatest ≡ pos 0) × (none ≡ 1))

-- the array has the valid items of another one that pass a test
abbrev pub AreThosePassing : (ℤ → Bool) → Tree → Tree → Type 0
AreThosePassing passes t kept = column kept ≡ filtered_by passes (column t)
