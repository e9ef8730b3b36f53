-- Answers of the array that stands for another.
use Rattle.std.proofs.Common.{◌≡◌, Bool, true, false, Result, Ok, Err}
use Rattle.std.specs.Prelude.{if◌then◌else◌}
use Rattle.fl_types.specs.declared.error.FastLanesError.{FastLanesError}
use Rattle.fl_types.specs.declared.error.FastLanesError.TheVariants.{NotInteger}
use Rattle.fl_types.specs.Refusals.{Answers}
use Rattle.fl_types.specs.Types.{is_integer}
use Rattle.fl_column.specs.Columns.{Column, PrimitiveParts, column_of_primitive}
use Rattle.fl_array.specs.Reads.{integer_column}

-- an array of the same column answers alike
pub answered_as : (f : Column → Result Column FastLanesError) (c d : Column) (r : Result PrimitiveParts FastLanesError) → c ≡ d → Answers column_of_primitive r (f d) → Answers column_of_primitive r (f c)
answered_as f c d r e so = rw e so

-- the plain array of a column has the column
pub decoded_is : (c d : Column) → integer_column c ≡ Ok d → c ≡ d
decoded_is c d e = each (is_integer c.dtype) e
  where
    each : (b : Bool) → (if b then Ok c else Err NotInteger) ≡ Ok d → c ≡ d
    each true e = cc
    each false e = cc
