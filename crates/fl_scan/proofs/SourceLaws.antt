-- The column that is read.
use Rattle.std.proofs.Common.{◌≡◌, Bool, true, false, Ok, Err, refl}
use Rattle.std.specs.Prelude.{if◌then◌else◌}
use Rattle.fl_types.specs.declared.error.FastLanesError.TheVariants.{NotInteger}
use Rattle.fl_types.specs.Types.{is_integer}
use Rattle.fl_column.specs.Columns.{Column}
use Rattle.fl_array.specs.Reads.{integer_column}

-- it is the array's
pub read_is : (c d : Column) → integer_column c ≡ Ok d → c ≡ d
read_is c d e = each (is_integer c.dtype) e
  where
    each : (b : Bool) → (if b then Ok c else Err NotInteger) ≡ Ok d → c ≡ d
    each true e = cc
    each false e = cc

-- and of integers
pub read_integers : (c d : Column) → integer_column c ≡ Ok d → is_integer c.dtype ≡ true
read_integers c d e = each (is_integer c.dtype) refl e
  where
    each : (b : Bool) → is_integer c.dtype ≡ b → (if b then Ok c else Err NotInteger) ≡ Ok d → is_integer c.dtype ≡ true
    each true typed e = typed
    each false typed e = cc
