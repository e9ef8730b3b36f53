-- Comparisons that are answered by bitmaps.
use Rattle.std.specs.Prelude.{◌≡◌, ◌==◌, ℕ, ℤ, Bool, not, Option, Some, None, List, length, map, option_map, is_none, if◌then◌else◌}
use Rattle.fl_types.specs.declared.dtype.PType.{PType}
use Rattle.fl_types.specs.declared.query.CompareOperator.{CompareOperator}
use Rattle.fl_types.specs.declared.query.CompareOperator.TheVariants.{Eq, Gt, Gte, Lt, Lte, NotEq}
use Rattle.fl_types.specs.declared.query.BetweenOptions.{BetweenOptions}
use Rattle.fl_types.specs.declared.query.StrictComparison.{StrictComparison}
use Rattle.fl_types.specs.declared.query.StrictComparison.TheVariants.{NonStrict, Strict}
use Rattle.fl_types.specs.Types.{has_ptype}
use Rattle.fl_column.specs.Columns.{Column}
use Rattle.fl_column.specs.Bitmaps.{bitmap_len, bits_in}
use Rattle.fl_bitmaps.specs.Bitmaps.{items_in}
use Rattle.flcol_c.specs.declared.fault.Fault.{Fault}
use Rattle.flcol_c.specs.declared.fault.Fault.TheVariants.{BadOperator, WrongLength, WrongType}

-- the operator that a number names
abbrev pub operator_of : ℕ → Option CompareOperator
operator_of n =
    if n == 0 then Some Eq
    else if n == 1 then Some NotEq
    else if n == 2 then Some Gt
    else if n == 3 then Some Gte
    else if n == 4 then Some Lt
    else if n == 5 then Some Lte
    else None

-- a bound is left out where the number is not 0
abbrev pub strictness_of : ℕ → StrictComparison
strictness_of n = if n == 0 then NonStrict else Strict

-- how two bounds are meant, by a number for each
abbrev pub options_of : ℕ → ℕ → BetweenOptions
options_of lower upper = record { lower_strict = strictness_of lower; upper_strict = strictness_of upper }

-- why the items of a column are not tested into so many bytes, if they are not
abbrev pub test_fault : PType → ℕ → Column → Option Fault
test_fault ptype bits c =
    if not (has_ptype ptype c.dtype) then Some WrongType
    else if bits == bitmap_len (length c.items) then None
    else Some WrongLength

-- the same of a comparison, whose operator a number names
abbrev pub compare_fault : PType → ℕ → ℕ → Column → Option Fault
compare_fault ptype operator bits c = if is_none (operator_of operator) then Some BadOperator else test_fault ptype bits c

-- the bits are the answers of a test of each item, a null at a null
abbrev pub AreAnswers : (ℤ → Bool) → Column → List ℕ → List ℕ → Type 0
AreAnswers test c bits validity = map (option_map test) c.items ≡ items_in (bits_in bits (length c.items)) validity
