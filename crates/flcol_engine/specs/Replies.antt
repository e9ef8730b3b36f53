-- What a column answers to a query, as text.
use Rattle.std.specs.Prelude.{ℤ, List, [], ◌∷◌, ℕ, Option, Some, None, Result, Ok, Err, if◌then◌else◌}
use Rattle.fl_types.specs.declared.dtype.DType.{DType}
use Rattle.fl_types.specs.declared.dtype.DType.TheVariants as dtypes
use Rattle.fl_types.specs.declared.dtype.Nullability.TheVariants.{NonNullable}
use Rattle.fl_types.specs.declared.error.FastLanesError.{FastLanesError}
use Rattle.fl_types.specs.declared.error.FastLanesError.TheVariants.{NotInteger, TypeMismatch}
use Rattle.fl_types.specs.Integers.{fits}
use Rattle.fl_types.specs.Values.{ScalarParts}
use Rattle.fl_column.specs.Columns.{Column}
use Rattle.fl_column.specs.Queries.{is_constant_column, is_sorted_column, scalar_of_column}
use Rattle.fl_ops.specs.Operations.{and_then}
use Rattle.fl_ops.specs.Queries.{between_scalars, compare_scalar, mapped}
use Rattle.flcol_engine.specs.declared.commands.ColumnQuery.{ColumnQuery}
use Rattle.flcol_engine.specs.declared.commands.ColumnQuery.TheVariants.{At, Between, Compare, Decode, IsConstant, IsSorted}
use Rattle.flcol_engine.specs.Printing.{column_text, line, scalar_text, truth_text}

-- a constant of a type, or why there is none
abbrev pub constant_of_type : DType → Option ℤ → Result ScalarParts FastLanesError
constant_of_type (dtypes.Bool nullability) constant = Err NotInteger
constant_of_type (dtypes.Primitive ptype nullability) None = Err TypeMismatch
constant_of_type (dtypes.Primitive ptype nullability) (Some z) = if fits ptype z then Ok (record { dtype = dtypes.Primitive ptype NonNullable; value = Some z }) else Err TypeMismatch

-- what a column answers to a query, as text, or why there is no answer
abbrev pub reply : ColumnQuery → Column → Result (List ℕ) FastLanesError
reply Decode c = Ok (column_text c)
reply (At i) c = mapped scalar_text (scalar_of_column i c)
reply (Compare operator constant) c = and_then (constant_of_type c.dtype constant) (λ k. mapped column_text (compare_scalar operator k c))
reply (Between options lower upper) c = and_then (constant_of_type c.dtype lower) (λ l. and_then (constant_of_type c.dtype upper) (λ u. mapped column_text (between_scalars l u options c)))
reply IsConstant c = mapped (λ truth. line (truth_text truth)) (is_constant_column c)
reply (IsSorted strict) c = mapped (λ truth. line (truth_text truth)) (is_sorted_column strict c)
