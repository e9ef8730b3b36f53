-- Answers as text: a line for each.
use Rattle.std.specs.Prelude.{◌++◌, ℕ, ℤ, pos, List, [], ◌∷◌, codes, drop, get_or, flat_map, Bool, true, false, Option, Some, None}
use Rattle.std.specs.Fmt.{signed_decimal}
use Rattle.std.specs.Ordering.{int_eq}
use Rattle.fl_types.specs.declared.dtype.DType.{DType}
use Rattle.fl_types.specs.declared.dtype.DType.TheVariants as dtypes
use Rattle.fl_types.specs.Values.{ScalarParts}
use Rattle.fl_types.specs.declared.dtype.PType.{PType}
use Rattle.fl_types.specs.declared.validity.Validity.{Validity}
use Rattle.fl_types.specs.Validities.{items_of, nullability_of}
use Rattle.fl_column.specs.Columns.{Column}

-- a line: a text, ended by a line feed
abbrev pub line : List ℕ → List ℕ
line text = text ++ 10 ∷ []

-- a truth value, as it is printed
abbrev pub truth_text : Bool → List ℕ
truth_text true = codes "true"
truth_text false = codes "false"

-- an item of a type, as it is printed: a number, a truth value, or null
abbrev pub text_of_item : DType → Option ℤ → List ℕ
text_of_item dtype None = codes "null"
text_of_item (dtypes.Primitive ptype nullability) (Some z) = signed_decimal z
text_of_item (dtypes.Bool nullability) (Some z) = truth_text (int_eq z (pos 1))

-- items of a type as they are printed, each on a line of its own
abbrev pub text_of_items : DType → List (Option ℤ) → List ℕ
text_of_items dtype items = flat_map (λ item. line (text_of_item dtype item)) items

-- a column, as it is printed
abbrev pub column_text : Column → List ℕ
column_text c = text_of_items c.dtype c.items

-- a scalar, as it is printed
abbrev pub scalar_text : ScalarParts → List ℕ
scalar_text scalar = line (text_of_item scalar.dtype scalar.value)

-- the line of the item at an index of a plain array
abbrev pub item_line : PType → Validity → List ℤ → ℕ → List ℕ
item_line ptype validity slots i = line (text_of_item (dtypes.Primitive ptype (nullability_of validity)) (get_or (items_of validity slots) i None))

-- the lines of its items from an index on
abbrev pub item_lines : PType → Validity → List ℤ → ℕ → List ℕ
item_lines ptype validity slots i = text_of_items (dtypes.Primitive ptype (nullability_of validity)) (drop i (items_of validity slots))
