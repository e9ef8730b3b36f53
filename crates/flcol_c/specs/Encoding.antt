-- Arrays that are encoded by the text of a scheme.
use Rattle.std.specs.Prelude.{◌≡◌, ◌≢◌, ℕ, ℤ, pos, false, true, Option, Some, None, List, Result, Ok, Err}
use Rattle.fl_types.specs.declared.error.FastLanesError.{FastLanesError}
use Rattle.fl_types.specs.declared.error.FastLanesError.TheVariants.{NotInteger, OutOfMemory}
use Rattle.fl_types.specs.Types.{is_integer}
use Rattle.fl_column.specs.Columns.{PrimitiveParts}
use Rattle.fl_array.specs.Trees.{Tree, column}
use Rattle.fl_encode.specs.Encodings.{IsEncodedAs, encode_refusal}
use Rattle.fl_encode.specs.Shapes.{Shape}
use Rattle.fl_encode.specs.Texts.{says_children, scheme_of_text}
use Rattle.flcol_c.specs.declared.fault.Fault.{Fault}
use Rattle.flcol_c.specs.declared.fault.Fault.TheVariants.{BadScheme, NoArray, Refused}
use Rattle.flcol_c.specs.Plain.{IsSimplestOf}
use Rattle.flcol_c.specs.Statuses.{status_of}

-- the array is made by the scheme that was read of a plain array of the same column with the simplest validity, and has that column
abbrev pub IsEncodingOf : Result Shape ℕ → Tree → Tree → Type 0
IsEncodingOf read t encoded =
    (scheme : Shape) × (plain : PrimitiveParts) × (read ≡ Ok scheme) × IsSimplestOf (column t) plain
    × (encode_refusal scheme plain ≡ None) × IsEncodedAs scheme plain encoded × (column encoded ≡ column t)

-- the scheme refuses such a plain array
abbrev pub IsRefusedBy : Shape → Tree → FastLanesError → Type 0
IsRefusedBy scheme t refusal = (plain : PrimitiveParts) × IsSimplestOf (column t) plain × (encode_refusal scheme plain ≡ Some refusal)

-- what a scheme that was read does not encode an array with: booleans are refused, else the scheme refuses
abbrev pub IsFaultOf : Result Shape ℕ → Tree → Fault → Type 0
IsFaultOf (Err position) t fault = fault ≡ BadScheme
IsFaultOf (Ok scheme) t fault =
    (is_integer (column t).dtype ≡ false → fault ≡ Refused NotInteger)
    × (is_integer (column t).dtype ≡ true → (refusal : FastLanesError) × (fault ≡ Refused refusal) × IsRefusedBy scheme t refusal)

-- an array was encoded by the scheme that was read, or the first fault answered, unless memory ran out
abbrev pub GivesEncoding : Result Shape ℕ → Tree → Result Tree Fault → Type 0
GivesEncoding read t (Ok encoded) = IsEncodingOf read t encoded
GivesEncoding read t (Err fault) = fault ≢ Refused OutOfMemory → IsFaultOf read t fault

-- the text says no scheme, and no children, for which alone memory is asked for before that is known
abbrev pub IsWrongAtOnce : List ℕ → Type 0
IsWrongAtOnce text = (says_children text ≡ false) × (position : ℕ) × (scheme_of_text text ≡ Err position)

-- the status of encoding an array says the first fault, unless memory ran out, as it does not of a text that is wrong at once
abbrev pub IsEncodingStatus : List ℕ → Option Tree → ℤ → Type 0
IsEncodingStatus text None status = status ≡ status_of NoArray
IsEncodingStatus text (Some t) status =
    (IsWrongAtOnce text → status ≡ status_of BadScheme)
    × (status ≢ pos 0 → status ≢ pos 1 → (fault : Fault) × (status ≡ status_of fault) × IsFaultOf (scheme_of_text text) t fault)
