-- Operations on columns, one after another.
use Rattle.std.specs.Prelude.{ℕ, List, [], ◌∷◌, Result, Ok, Err}
use Rattle.fl_types.specs.declared.dtype.DType.{DType}
use Rattle.fl_types.specs.declared.error.FastLanesError.{FastLanesError}
use Rattle.fl_types.specs.declared.mask.Mask.{Mask}
use Rattle.fl_column.specs.Columns.{Column}
use Rattle.fl_column.specs.Operations.{cast_column, filter_column, ranges_column, slice_column, take_column}
use Rattle.fl_array.specs.Trees.{Tree, column}
use Rattle.fl_ops.specs.declared.operations.Op.{Op}
use Rattle.fl_ops.specs.declared.operations.Op.TheVariants as ops

-- an operation: of a slice the start and the end, of ranges a start and a length each
pub data Step : Type 0 where
  Slice : ℕ → ℕ → Step
  Take : Tree → Step
  TakeRanges : List (ℕ × ℕ) → Step
  Filter : Mask → Step
  Cast : DType → Step

-- what an operation of the library says
abbrev pub step_of : Op → Step
step_of (ops.Slice range) = Slice range.start range.end
step_of (ops.Take indices) = Take indices
step_of (ops.TakeRanges ranges) = TakeRanges ranges.items
step_of (ops.Filter mask) = Filter mask
step_of (ops.Cast target) = Cast target

-- what an operation makes of a column, or why it makes nothing
abbrev pub step_column : Column → Step → Result Column FastLanesError
step_column c (Slice start end) = slice_column start end c
step_column c (Take indices) = take_column (column indices) c
step_column c (TakeRanges ranges) = ranges_column ranges c
step_column c (Filter mask) = filter_column mask c
step_column c (Cast target) = cast_column target c

-- a result goes on to the next step, a refusal ends
abbrev pub and_then : {A B : Type 0} → Result A FastLanesError → (A → Result B FastLanesError) → Result B FastLanesError
and_then (Ok x) rest = rest x
and_then (Err refusal) rest = Err refusal

-- the last column, or the first refusal
abbrev pub run_columns : Column → List Step → Result Column FastLanesError
run_columns c [] = Ok c
run_columns c (step ∷ steps) = and_then (step_column c step) (λ d. run_columns d steps)
