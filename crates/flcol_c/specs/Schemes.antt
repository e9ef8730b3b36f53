-- The schemes of arrays as text.
use Rattle.std.specs.Prelude.{◌==◌, ℕ, Option, Some, None, List, length, if◌then◌else◌}
use Rattle.fl_types.specs.Types.{is_integer}
use Rattle.fl_array.specs.Trees.{Tree, column}
use Rattle.fl_encode.specs.Shapes.{scheme_text}
use Rattle.fl_encode.specs.TreeShapes.{shape_of, tree_shape}
use Rattle.flcol_c.specs.declared.fault.Fault.{Fault}
use Rattle.flcol_c.specs.declared.fault.Fault.TheVariants.{WrongLength}
use Rattle.flcol_c.specs.Statuses.{refusal_in}

-- the text of an array's scheme
abbrev pub text_of : Tree → List ℕ
text_of t = scheme_text (tree_shape t)

-- why an array has none, if it has none: no scheme makes booleans
abbrev pub scheme_fault : Tree → Option Fault
scheme_fault t = refusal_in (shape_of t)

-- why it is not written to so many bytes, if it is not: there is none, or it has another length
abbrev pub text_fault : ℕ → Tree → Option Fault
text_fault len t = if is_integer (column t).dtype then (if len == length (text_of t) then None else Some WrongLength) else scheme_fault t
