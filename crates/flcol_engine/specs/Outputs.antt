-- What a command writes for what it reads, or why it writes nothing.
use Rattle.std.specs.Prelude.{◌≡◌, ◌≢◌, ◌<◌, ℕ, List, [], ◌∷◌, Option, Result, Ok, Err, MatchResult, ok_or, ⊤}
use Rattle.std.specs.Io.KnownBytes.{Appends}
use Rattle.fl_types.specs.declared.error.FastLanesError.{FastLanesError}
use Rattle.fl_serialized.specs.Nodes.{Node, depth}
use Rattle.fl_serde.specs.Reading.{reading}
use Rattle.fl_serde.specs.RoundTrip.{IsReadBack}
use Rattle.fl_serde.specs.Writing.{id_of, written}
use Rattle.flcol_container.specs.Container.{IsContainer, IsNoContainer, max_depth}
use Rattle.fl_column.specs.Columns.{PrimitiveParts}
use Rattle.fl_array.specs.ToBlocked.{to_blocked_tree}
use Rattle.fl_array.specs.Trees.{Tree, column}
use Rattle.fl_ops.specs.Operations.{Step, and_then, run_columns}
use Rattle.fl_ops.specs.Results.{IsResult}
use Rattle.flcol_engine.specs.declared.commands.Encode.{Encode}
use Rattle.flcol_engine.specs.declared.commands.Encoding.{Encoding}
use Rattle.flcol_engine.specs.declared.commands.Query.{Query}
use Rattle.flcol_engine.specs.declared.commands.Query.TheVariants as queries
use Rattle.flcol_engine.specs.declared.fault.Fault.{Fault}
use Rattle.flcol_engine.specs.declared.fault.Fault.TheVariants as faults
use Rattle.flcol_engine.specs.Encodings.{EncodesAs}
use Rattle.flcol_engine.specs.Ends.{AppendsFront}
use Rattle.flcol_engine.specs.Faults.{out_of_memory}
use Rattle.flcol_engine.specs.Printing.{line}
use Rattle.flcol_engine.specs.Replies.{reply}
use Rattle.flcol_engine.specs.Text.{column_in_text, primitive_of_column}
use Rattle.flcol_engine.specs.Words.{RunParts}

-- ---- what calls answer
-- what a call answered, seen by view, is such an answer, unless memory ran out
abbrev pub Meets : {X Y : Type 0} → (X → Y) → (Result Y Fault → Type 0) → Result X Fault → Type 0
Meets view Is (Ok x) = Is (Ok (view x))
Meets view Is (Err e) = e ≢ out_of_memory → Is (Err e)

-- a refusal of the library as the program's
abbrev pub of_library : {X : Type 0} → Result X FastLanesError → Result X Fault
of_library (Ok x) = Ok x
of_library (Err error) = Err (faults.Refused error)

-- the output goes with what there is, or is its refusal
abbrev pub GoesWith : {X Y : Type 0} → (X → Result Y Fault → Type 0) → Result X Fault → Result Y Fault → Type 0
GoesWith Goes (Ok x) output = Goes x output
GoesWith Goes (Err fault) output = output ≡ Err fault

-- ---- run
-- the array of a container, or why these bytes have none
abbrev pub IsArray : List ℕ → Result Tree Fault → Type 0
IsArray bytes (Ok t) = (node : Node) × IsContainer bytes node × (reading node ≡ Ok t)
IsArray bytes (Err faults.BadContainer) = IsNoContainer bytes
IsArray bytes (Err (faults.Refused error)) = (node : Node) × IsContainer bytes node × (reading node ≡ Err error)
IsArray bytes (Err faults.BadColumn) = ⊥
IsArray bytes (Err faults.ReadFault) = ⊥
IsArray bytes (Err faults.WriteFault) = ⊥

-- the container of an array, which is read as that array, or that it has none: exactly where more than sixteen nodes stand in one another
abbrev pub IsStored : Tree → Result (List ℕ) Fault → Type 0
IsStored t (Ok bytes) = IsReadBack t × IsContainer bytes (written t)
IsStored t (Err faults.BadContainer) = max_depth < depth (written t)
IsStored t (Err (faults.Refused error)) = ⊥
IsStored t (Err faults.BadColumn) = ⊥
IsStored t (Err faults.ReadFault) = ⊥
IsStored t (Err faults.WriteFault) = ⊥

-- what is said of the array that operations make of one, or their first refusal
abbrev pub IsOfResult : (Tree → Result (List ℕ) Fault → Type 0) → List Step → Tree → Result (List ℕ) Fault → Type 0
IsOfResult Is steps t output = MatchResult (run_columns (column t) steps) (λ _. (last : Tree) × IsResult t steps last × Is last output) (λ error. output ≡ Err (faults.Refused error))

-- the answer to a query after operations on an array: its column's, the id of its encoding, or the container of the array or of its blocked form
abbrev pub IsAnswer : Query → List Step → Tree → Result (List ℕ) Fault → Type 0
IsAnswer (queries.Column query) steps t output = output ≡ of_library (and_then (run_columns (column t) steps) (reply query))
IsAnswer queries.Id steps t output = IsOfResult (λ last text. text ≡ Ok (line (id_of last))) steps t output
IsAnswer queries.Store steps t output = IsOfResult IsStored steps t output
IsAnswer queries.Migrate steps t output = IsOfResult (λ last container. IsStored (to_blocked_tree last) container) steps t output

-- what a run writes for these bytes, or why it writes nothing
abbrev pub IsRunOutput : RunParts → List ℕ → Result (List ℕ) Fault → Type 0
IsRunOutput run bytes output = (array : Result Tree Fault) × IsArray bytes array × GoesWith (IsAnswer run.query run.operations) array output

-- ---- encode
-- the container of an array that is never too deep
abbrev pub IsWritten : Tree → Result (List ℕ) Fault → Type 0
IsWritten t (Ok bytes) = IsReadBack t × IsContainer bytes (written t)
IsWritten t (Err fault) = ⊥

-- what encoding a primitive array writes: the container of the array that the encoding makes of it, or the encoding's refusal
abbrev pub IsEncodedOutput : Encoding → PrimitiveParts → Result (List ℕ) Fault → Type 0
IsEncodedOutput encoding p output = (array : Result Tree FastLanesError) × EncodesAs encoding p array × GoesWith IsWritten (of_library array) output

-- what encoding a text column writes, or why it writes nothing
abbrev pub IsEncodeOutput : Encode → List ℕ → Result (List ℕ) Fault → Type 0
IsEncodeOutput command text output = GoesWith (λ c encoded. IsEncodedOutput command.encoding (primitive_of_column c) encoded) (ok_or (column_in_text command.ptype command.nullability text) faults.BadColumn) output

-- ---- the ends of a run
-- A run over a source that tells its bytes has written such an output, or it was refused as it is said; where the sink failed a beginning of the output is written. A read fault and `OutOfMemory` may come with any bytes.
abbrev pub IsOutcomeOf : (Result (List ℕ) Fault → Type 0) → Result (Unit {0}) Fault → Option (List ℕ) → Option (List ℕ) → Type 0
IsOutcomeOf Is (Ok _) old new = (bytes : List ℕ) × Is (Ok bytes) × Appends old new bytes
IsOutcomeOf Is (Err faults.WriteFault) old new = (bytes : List ℕ) × Is (Ok bytes) × AppendsFront old new bytes
IsOutcomeOf Is (Err faults.ReadFault) old new = ⊤
IsOutcomeOf Is (Err faults.BadColumn) old new = Is (Err faults.BadColumn)
IsOutcomeOf Is (Err faults.BadContainer) old new = Is (Err faults.BadContainer)
IsOutcomeOf Is (Err (faults.Refused error)) old new = faults.Refused error ≢ out_of_memory → Is (Err (faults.Refused error))
