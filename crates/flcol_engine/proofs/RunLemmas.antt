-- How runs end.
use Rattle.std.proofs.Common.{◌≡◌, ◌≢◌, ℕ, List, [], Bool, true, false, Option, None, Some, Ok, Err, IsTrue, refl, subst, sym, ap, arith, ◌∙◌}
use Rattle.std.specs.Prelude.{IfSome, IsErrAnd, IsOkAnd, MatchResult, Result, ok_or}
use Rattle.std.specs.Io.KnownBytes.{Keeps}
use Rattle.fl_types.specs.declared.error.FastLanesError.{FastLanesError}
use Rattle.fl_column.specs.Columns.{Column, PrimitiveParts}
use Rattle.fl_array.specs.ToBlocked.{to_blocked_tree}
use Rattle.fl_array.specs.Trees.{Tree, column}
use Rattle.fl_serde.specs.Writing.{id_of}
use Rattle.fl_ops.specs.Operations.{Step, and_then, run_columns}
use Rattle.fl_ops.specs.Results.{IsResult}
use Rattle.flcol_engine.specs.declared.commands.Encode.{Encode}
use Rattle.flcol_engine.specs.declared.commands.Encoding.{Encoding}
use Rattle.flcol_engine.specs.declared.commands.Query.{Query}
use Rattle.flcol_engine.specs.declared.commands.Query.TheVariants as queries
use Rattle.flcol_engine.specs.declared.fault.Fault.{Fault}
use Rattle.flcol_engine.specs.declared.fault.Fault.TheVariants as faults
use Rattle.flcol_engine.specs.Command.{CommandParts, EncodeParts, IsCommandOutcome, IsRun, OfRun, PackParts}
use Rattle.flcol_engine.specs.Encodings.{EncodesAs}
use Rattle.flcol_engine.specs.Faults.{out_of_memory}
use Rattle.flcol_engine.specs.Outputs.{GoesWith, IsAnswer, IsEncodeOutput, IsEncodedOutput, IsOfResult, IsOutcomeOf, IsRunOutput, IsStored, Meets, of_library}
use Rattle.flcol_engine.specs.Printing.{line}
use Rattle.flcol_engine.specs.Text.{column_in_text, primitive_of_column}
use Rattle.flcol_engine.specs.Words.{RunParts}
use Rattle.flcol_engine.proofs.RoomLemmas.{encoded_shallow}

-- ---- what is computed never blames the sink
library_fault : {X : Type 0} (r : Result X FastLanesError) → Err faults.WriteFault ≡ of_library r → ⊥
library_fault (Ok x) e = cc
library_fault (Err error) e = cc

result_fault : (Is : Tree → Result (List ℕ) Fault → Type 0) (steps : List Step) (t : Tree) (r : Result Column FastLanesError) → ((last : Tree) → Is last (Err faults.WriteFault) → ⊥)
    → MatchResult r (λ _. (last : Tree) × IsResult t steps last × Is last (Err faults.WriteFault)) (λ error. ◌≡◌ {A = Result (List ℕ) Fault} (Err faults.WriteFault) (Err (faults.Refused error))) → ⊥
result_fault Is steps t (Ok c) never (last, made, is) = never last is
result_fault Is steps t (Err error) never e = cc

id_fault : (text : List ℕ) → ◌≡◌ {A = Result (List ℕ) Fault} (Err faults.WriteFault) (Ok text) → ⊥
id_fault text e = cc

answer_fault : (query : Query) (steps : List Step) (t : Tree) → IsAnswer query steps t (Err faults.WriteFault) → ⊥
answer_fault (queries.Column query) steps t e = library_fault _ e
answer_fault queries.Id steps t e = result_fault (λ last text. text ≡ Ok (line (id_of last))) steps t (run_columns (column t) steps) (λ last is. id_fault (line (id_of last)) is) e
answer_fault queries.Store steps t e = result_fault IsStored steps t (run_columns (column t) steps) (λ last is. is) e
answer_fault queries.Migrate steps t e = result_fault (λ last container. IsStored (to_blocked_tree last) container) steps t (run_columns (column t) steps) (λ last is. is) e

output_fault : (run : RunParts) (bytes : List ℕ) → IsRunOutput run bytes (Err faults.WriteFault) → ⊥
output_fault run bytes (Ok t, is, answer) = answer_fault run.query run.operations t answer
output_fault run bytes (Err faults.WriteFault, is, same) = is
output_fault run bytes (Err faults.ReadFault, is, same) = is
output_fault run bytes (Err faults.BadColumn, is, same) = is
output_fault run bytes (Err faults.BadContainer, is, same) = cc
output_fault run bytes (Err (faults.Refused error), is, same) = cc

column_fault : (Is : Column → Result (List ℕ) Fault → Type 0) (c : Option Column) → ((c : Column) → Is c (Err faults.WriteFault) → ⊥) → GoesWith Is (ok_or c faults.BadColumn) (Err faults.WriteFault) → ⊥
column_fault Is (Some c) never is = never c is
column_fault Is None never e = cc

encoded_fault : (encoding : Encoding) (p : PrimitiveParts) → IsEncodedOutput encoding p (Err faults.WriteFault) → ⊥
encoded_fault encoding p (Ok t, made, is) = is
encoded_fault encoding p (Err error, made, e) = cc

encode_fault : (command : Encode) (text : List ℕ) → IsEncodeOutput command text (Err faults.WriteFault) → ⊥
encode_fault command text is = column_fault (λ c encoded. IsEncodedOutput command.encoding (primitive_of_column c) encoded) (column_in_text command.ptype command.nullability text) (λ c is. encoded_fault command.encoding (primitive_of_column c) is) is

-- ---- what is stored of an encoded column is what encoding it writes
with_column : {X : Type 0} (view : X → List ℕ) (Is : PrimitiveParts → Result (List ℕ) Fault → Type 0) (given : Option Column) (p : PrimitiveParts) (r : Result X Fault) → IsOkAnd (ok_or given faults.BadColumn) (λ c. p ≡ primitive_of_column c) → Meets view (Is p) r
    → Meets view (λ output. GoesWith (λ c encoded. Is (primitive_of_column c) encoded) (ok_or given faults.BadColumn) output) r
with_column view Is (Some c) p (Ok x) said is = subst (λ q. Is q (Ok (view x))) said is
with_column view Is (Some c) p (Err f) said is = λ ne. subst (λ q. Is q (Err f)) said (is ne)
with_column view Is None p r said is = absurd said

-- an encoded column is never too deep, so memory alone keeps it from being stored
never_deep : (encoding : Encoding) (p : PrimitiveParts) (t : Tree) (f : Fault) → EncodesAs encoding p (Ok t) → IsStored t (Err f) → ⊥
never_deep encoding p t faults.BadContainer made deep = omega (arith, deep, encoded_shallow encoding p t made.form)
never_deep encoding p t faults.BadColumn made is = is
never_deep encoding p t faults.ReadFault made is = is
never_deep encoding p t faults.WriteFault made is = is
never_deep encoding p t (faults.Refused error) made is = is

stored : {X : Type 0} (view : X → List ℕ) (encoding : Encoding) (p : PrimitiveParts) (t : Tree) (r : Result X Fault) → EncodesAs encoding p (Ok t) → Meets view (IsStored t) r → Meets view (IsEncodedOutput encoding p) r
stored view encoding p t (Ok x) made is = (Ok t, made, is)
stored view encoding p t (Err f) made is = λ ne. absurd (never_deep encoding p t f made (is ne))

pub stored_column : {X : Type 0} (view : X → List ℕ) (command : Encode) (text : List ℕ) (p : PrimitiveParts) (t : Tree) (r : Result X Fault) → IsOkAnd (ok_or (column_in_text command.ptype command.nullability text) faults.BadColumn) (λ c. p ≡ primitive_of_column c)
    → EncodesAs command.encoding p (Ok t) → Meets view (IsStored t) r → Meets view (IsEncodeOutput command text) r
stored_column view command text p t r said made is = with_column view (IsEncodedOutput command.encoding) (column_in_text command.ptype command.nullability text) p r said (stored view command.encoding p t r made is)

-- ---- what is said of the last array is said after the operations
of_last : (Is : Tree → Result (List ℕ) Fault → Type 0) (steps : List Step) (t last : Tree) (output : Result (List ℕ) Fault) → run_columns (column t) steps ≡ Ok (column last) → IsResult t steps last → IsOfResult Is [] last output → IsOfResult Is steps t output
of_last Is steps t last output same made (other, is_last, is) = rw same (last, made, subst (λ x. Is x output) is_last is)

answer_of_last : (query : Query) (steps : List Step) (t last : Tree) (output : Result (List ℕ) Fault) → run_columns (column t) steps ≡ Ok (column last) → IsResult t steps last → IsAnswer query [] last output → IsAnswer query steps t output
answer_of_last (queries.Column query) steps t last output same made is = rw same is
answer_of_last queries.Id steps t last output same made is = of_last (λ last text. text ≡ Ok (line (id_of last))) steps t last output same made is
answer_of_last queries.Store steps t last output same made is = of_last IsStored steps t last output same made is
answer_of_last queries.Migrate steps t last output same made is = of_last (λ last container. IsStored (to_blocked_tree last) container) steps t last output same made is

pub after_operations : {X : Type 0} (view : X → List ℕ) (query : Query) (steps : List Step) (t last : Tree) (r : Result X Fault) → run_columns (column t) steps ≡ Ok (column last) → IsResult t steps last → Meets view (IsAnswer query [] last) r → Meets view (IsAnswer query steps t) r
after_operations view query steps t last (Ok x) same made is = answer_of_last query steps t last (Ok (view x)) same made is
after_operations view query steps t last (Err f) same made is = λ ne. answer_of_last query steps t last (Err f) same made (is ne)

-- ---- a command is refused before anything is written
refused_outcome : (Is : Result (List ℕ) Fault → Type 0) (old new : Option (List ℕ)) (e : Fault) → (Is (Err faults.WriteFault) → ⊥) → (e ≢ out_of_memory → Is (Err e)) → IsOutcomeOf Is (Err e) old new
refused_outcome Is old new faults.WriteFault never h = absurd (never (h (λ e. cc)))
refused_outcome Is old new faults.ReadFault never h = tt
refused_outcome Is old new faults.BadColumn never h = h (λ e. cc)
refused_outcome Is old new faults.BadContainer never h = h (λ e. cc)
refused_outcome Is old new (faults.Refused error) never h = h

-- the same, for the bytes that were read of a source
refused_of_read : (Is : List ℕ → Result (List ℕ) Fault → Type 0) (left : Option (List ℕ)) (bytes : List ℕ) (old : Option (List ℕ)) (e : Fault) (r : Result (Unit {0}) Fault) → ((text : List ℕ) → Is text (Err faults.WriteFault) → ⊥)
    → IfSome left (λ input. bytes ≡ input) → IsErrAnd r (λ f. f ≡ e) → (e ≢ out_of_memory → Is bytes (Err e)) → IfSome left (λ input. IsOutcomeOf (Is input) r old old)
refused_of_read Is None bytes old e r never is refused said = tt
refused_of_read Is (Some input) bytes old e (Ok x) never is refused said = absurd refused
refused_of_read Is (Some input) bytes old e (Err f) never is refused said =
    subst (λ text. IsOutcomeOf (Is text) (Err f) old old) is
    (subst (λ fault. IsOutcomeOf (Is bytes) (Err fault) old old) (sym refused) (refused_outcome (Is bytes) old old e (never bytes) said))

pub refused_run : (run : RunParts) (left : Option (List ℕ)) (bytes : List ℕ) (old : Option (List ℕ)) (e : Fault) (r : Result (Unit {0}) Fault) → IfSome left (λ input. bytes ≡ input) → IsErrAnd r (λ f. f ≡ e) → (e ≢ out_of_memory → IsRunOutput run bytes (Err e))
    → IfSome left (λ input. IsOutcomeOf (IsRunOutput run input) r old old)
refused_run run left bytes old e r is refused said = refused_of_read (IsRunOutput run) left bytes old e r (λ text is. output_fault run text is) is refused said

pub refused_encode : (command : Encode) (left : Option (List ℕ)) (bytes : List ℕ) (old : Option (List ℕ)) (e : Fault) (r : Result (Unit {0}) Fault) → IfSome left (λ input. bytes ≡ input) → IsErrAnd r (λ f. f ≡ e) → (e ≢ out_of_memory → IsEncodeOutput command bytes (Err e))
    → IfSome left (λ input. IsOutcomeOf (IsEncodeOutput command input) r old old)
refused_encode command left bytes old e r is refused said = refused_of_read (IsEncodeOutput command) left bytes old e r (λ text is. encode_fault command text is) is refused said

-- ---- memory ran out before anything was read
no_outcome : (command : CommandParts) (text : List ℕ) (written : Option (List ℕ)) → IsCommandOutcome command text (Err out_of_memory) written written
no_outcome (PackParts pack) text written = λ ne. absurd (ne refl)
no_outcome (EncodeParts encode) text written = λ ne. absurd (ne refl)
no_outcome (OfRun run) text written = λ ne. absurd (ne refl)

answered : (command : CommandParts) (input written : Option (List ℕ)) → IfSome input (λ text. IsCommandOutcome command text (Err out_of_memory) written written)
answered command None written = tt
answered command (Some text) written = no_outcome command text written

kept : (written : Option (List ℕ)) → Keeps written written
kept None = tt
kept (Some bytes) = refl

-- so a run of any command ends
pub out_of_memory_run : (command : CommandParts) (input written : Option (List ℕ)) (source_failed sink_failed flushed : Bool) → source_failed ≡ false → sink_failed ≡ false
    → IsRun command (Err out_of_memory) input input source_failed written written sink_failed flushed
out_of_memory_run command input written source_failed sink_failed flushed e f = record {
  answer = answered command input written;
  whole = λ ne. absurd (ne refl);
  silent = λ ne. kept written;
  flushed = tt;
  read_fault = (λ is. absurd cc, λ failed. absurd cc);
  write_fault = (λ is. absurd cc, λ failed. absurd cc);
}
