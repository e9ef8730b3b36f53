-- Constants of a column's type can be compared with its items.
use Rattle.std.proofs.Common.{◌≡◌, ℤ, Bool, true, false, cond, Option, None, Some, Ok, Err, IfOk, IsTrue, refl, sym, ap, ◌∙◌}
use Rattle.std.specs.Prelude.{◌&&◌, ◌||◌, Result, not, is_some}
use Rattle.fl_types.specs.declared.dtype.DType.{DType}
use Rattle.fl_types.specs.declared.dtype.DType.TheVariants as dtypes
use Rattle.fl_types.specs.declared.dtype.Nullability.TheVariants.{NonNullable}
use Rattle.fl_types.specs.declared.dtype.PType.{PType}
use Rattle.fl_types.specs.declared.dtype.PType.TheVariants.{U8, U16, U32, U64, I8, I16, I32, I64}
use Rattle.fl_types.specs.declared.error.FastLanesError.{FastLanesError}
use Rattle.fl_types.specs.declared.error.FastLanesError.TheVariants.{TypeMismatch}
use Rattle.fl_types.specs.declared.scalar.Scalar.{Scalar}
use Rattle.fl_types.specs.Integers.{fits, same_ptype}
use Rattle.fl_types.specs.Refusals.{Answers}
use Rattle.fl_types.specs.Types.{is_integer, same_type}
use Rattle.fl_types.specs.Values.{ScalarParts, scalar_parts}
use Rattle.fl_column.specs.Columns.{Column}
use Rattle.fl_ops.specs.Queries.{is_comparable}
use Rattle.flcol_engine.specs.Replies.{constant_of_type}

same : (p : PType) → same_ptype p p ≡ true
same U8 = refl
same U16 = refl
same U32 = refl
same U64 = refl
same I8 = refl
same I16 = refl
same I32 = refl
same I64 = refl

-- a constant of a type has this type
has_type : (dtype : DType) (constant : Option ℤ) (k : ScalarParts) → constant_of_type dtype constant ≡ Ok k → (not (is_integer dtype) || (same_type dtype k.dtype && is_some k.value)) ≡ true
has_type (dtypes.Bool nullability) constant k e = refl
has_type (dtypes.Primitive ptype nullability) None k e = absurd cc
has_type (dtypes.Primitive ptype nullability) (Some z) k e = by (fits ptype z) e
  where
    by : (given : Bool) → ◌≡◌ {A = Result ScalarParts FastLanesError} (cond given (Ok (record { dtype = dtypes.Primitive ptype NonNullable; value = Some z })) (Err TypeMismatch)) (Ok k) → (same_type (dtypes.Primitive ptype nullability) k.dtype && is_some k.value) ≡ true
    by true e = let is : record { dtype = dtypes.Primitive ptype NonNullable; value = Some z } ≡ k = cc in rw (← is, same ptype) refl
    by false e = absurd cc

-- so it can be compared with the items
pub comparable : (c : Column) (constant : Option ℤ) (r : Result Scalar FastLanesError) → Answers scalar_parts r (constant_of_type c.dtype constant) → IfOk r (λ k. IsTrue (is_comparable c (scalar_parts k)))
comparable c constant (Ok k) e = has_type c.dtype constant (scalar_parts k) e
comparable c constant (Err e) h = tt
