-- Queries, and what a column answers.
use Rattle.std.specs.Prelude.{◌&&◌, ◌||◌, ℤ, pos, Bool, true, not, Result, Ok, Err, is_some, map, option_map, unwrap_or}
use Rattle.fl_types.specs.declared.error.FastLanesError.{FastLanesError}
use Rattle.fl_types.specs.declared.query.CompareOperator.{CompareOperator}
use Rattle.fl_types.specs.declared.dtype.DType.TheVariants as dtypes
use Rattle.fl_types.specs.declared.query.BetweenOptions.{BetweenOptions}
use Rattle.fl_types.specs.Types.{either_nullable, is_integer, nullability_in, same_type}
use Rattle.fl_types.specs.Values.{ScalarParts, bool_number, scalar_parts}
use Rattle.std.specs.Ordering.{int_eq}
use Rattle.fl_column.specs.Columns.{Column, column_of_bools}
use Rattle.fl_column.specs.Queries.{between_column, compare_column, is_constant_column, is_sorted_column, scalar_of_column}
use Rattle.fl_array.specs.Kinds.{Kind, has_delta}
use Rattle.fl_ops.specs.declared.queries.Query.{Query}
use Rattle.fl_ops.specs.declared.queries.Query.TheVariants.{Between, Compare, IsConstant, IsSorted, ScalarAt}
use Rattle.fl_ops.specs.declared.queries.Answer.{Answer}
use Rattle.fl_ops.specs.declared.queries.Answer.TheVariants as answers

-- a result that is changed where it is one
abbrev pub mapped : {A B : Type 0} → (A → B) → Result A FastLanesError → Result B FastLanesError
mapped f (Ok x) = Ok (f x)
mapped f (Err refusal) = Err refusal

-- the integer of a compared constant that is not null
abbrev pub integer_in : ScalarParts → ℤ
integer_in constant = unwrap_or constant.value (pos 0)

-- the constant is of the column's type and not null, where the column is of integers
abbrev pub is_comparable : Column → ScalarParts → Bool
is_comparable c constant = not (is_integer c.dtype) || (same_type c.dtype constant.dtype && is_some constant.value)

-- the same answers, nullable also where nulls may stand in the constant that was compared
abbrev pub nullable_with : ScalarParts → Column → Column
nullable_with constant answers = record { dtype = dtypes.Bool (either_nullable (nullability_in answers.dtype) (nullability_in constant.dtype)); items = answers.items }

-- the comparison of each item with a constant, or why there is none
abbrev pub compare_scalar : CompareOperator → ScalarParts → Column → Result Column FastLanesError
compare_scalar operator constant c = mapped (nullable_with constant) (compare_column operator (integer_in constant) c)

-- the range test of each item between two constants, or why there is none
abbrev pub between_scalars : ScalarParts → ScalarParts → BetweenOptions → Column → Result Column FastLanesError
between_scalars lower upper options c = mapped (λ answers. nullable_with upper (nullable_with lower answers)) (between_column (integer_in lower) (integer_in upper) options c)

-- the other truth value in each place, a null at a null
abbrev pub negated : Column → Column
negated c = record { dtype = c.dtype; items = map (option_map (λ z. bool_number (int_eq z (pos 0)))) c.items }

-- what an answer says: an item, a column of bools, or one bool
pub data Reply : Type 0 where
  ScalarReply : ScalarParts → Reply
  BoolsReply : Column → Reply
  BoolReply : Bool → Reply

-- what an answer says, as contracts see its parts
abbrev pub reply_of : Answer → Reply
reply_of (answers.Scalar item) = ScalarReply (scalar_parts item)
reply_of (answers.Bools bools) = BoolsReply (column_of_bools bools)
reply_of (answers.Bool bool) = BoolReply bool

-- a query may be asked of a column: each constant that it compares with is comparable
abbrev pub may_ask : Column → Query → Bool
may_ask c (ScalarAt i) = true
may_ask c (Compare operator constant) = is_comparable c (scalar_parts constant)
may_ask c (Between lower upper options) = is_comparable c (scalar_parts lower) && is_comparable c (scalar_parts upper)
may_ask c IsConstant = true
may_ask c (IsSorted strict) = true

-- whether a query to an array of this kind may need memory: a point read needs some only where differences have to be summed
abbrev pub may_need_memory : Kind → Query → Bool
may_need_memory k (ScalarAt i) = has_delta k
may_need_memory k (Compare operator constant) = true
may_need_memory k (Between lower upper options) = true
may_need_memory k IsConstant = true
may_need_memory k (IsSorted strict) = true

-- what a column answers to a query, or the refusal
abbrev pub ask_column : Column → Query → Result Reply FastLanesError
ask_column c (ScalarAt i) = mapped ScalarReply (scalar_of_column i c)
ask_column c (Compare operator constant) = mapped BoolsReply (compare_scalar operator (scalar_parts constant) c)
ask_column c (Between lower upper options) = mapped BoolsReply (between_scalars (scalar_parts lower) (scalar_parts upper) options c)
ask_column c IsConstant = mapped BoolReply (is_constant_column c)
ask_column c (IsSorted strict) = mapped BoolReply (is_sorted_column strict c)
